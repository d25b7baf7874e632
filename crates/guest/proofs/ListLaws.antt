-- Laws of lists of numbers: counted ones, those that pass a test, tests that all pass.
-- Assumes nothing.
use Rattle.std.proofs.Common.{◌≡◌, ℕ, zero, suc, ◌+◌, ◌-◌, ◌<◌, ◌≤◌, Bool, true, false, ◌&&◌, ◌⊎◌, List, [], ◌∷◌, length, refl, ap, inl, inr, arith}
use native.Mathlib.Decide.{ℕ_discrete}
use Rattle.guest.specs.Bytes.{count, those}
use Rattle.guest.specs.Prog.{all}

-- each number of a list has P
pub data All (P : ℕ → Type 0) : List ℕ → Type 0 where
  none : All P []
  more : {i : ℕ} {is : List ℕ} → P i → All P is → All P (i ∷ is)

pub all_map : {P Q : ℕ → Type 0} → ((i : ℕ) → P i → Q i) → {is : List ℕ} → All P is → All Q is
all_map f none = none
all_map f (more p a) = more (f _ p) (all_map f a)

pub all_both : {P Q : ℕ → Type 0} {is : List ℕ} → All P is → All Q is → All (λ i. P i × Q i) is
all_both none none = none
all_both (more p a) (more q b) = more (p, q) (all_both a b)

pub all_head : {P : ℕ → Type 0} {i : ℕ} {is : List ℕ} → All P (i ∷ is) → P i × All P is
all_head (more p a) = (p, a)

-- i is one of a list
pub data In (i : ℕ) : List ℕ → Type 0 where
  here : {is : List ℕ} → In i (i ∷ is)
  there : {j : ℕ} {is : List ℕ} → In i is → In i (j ∷ is)

pub in_none : {i : ℕ} → In i [] → ⊥
in_none h = elim h [ ]

pub in_cases : {i j : ℕ} {is : List ℕ} → In j (i ∷ is) → (j ≡ i) ⊎ In j is
in_cases here = inl refl
in_cases (there n) = inr n

pub all_in : {P : ℕ → Type 0} {is : List ℕ} → All P is → (i : ℕ) → In i is → P i
all_in {P = P} none i x3 = elim x3 [ ]
all_in {P} (more p a) i here = p
all_in {P} (more p a) i (there n) = all_in a i n

pub all_of : {P : ℕ → Type 0} (is : List ℕ) → ((i : ℕ) → In i is → P i) → All P is
all_of [] f = none
all_of (i ∷ is) f = more (f i here) (all_of is (λ j n. f j (there n)))

-- ---- counted lists

pub count_length : (n i : ℕ) → length (count n i) ≡ n
unfolding count
count_length zero i = refl
count_length (suc n) i = ap suc (count_length n (i + 1))

pub count_none : (n i : ℕ) → n ≡ 0 → count n i ≡ []
unfolding count
count_none n i e = rw e

-- the first number apart, for a loop from i up to `end`
pub count_first : (end i : ℕ) → i < end → count (end - i) i ≡ i ∷ count (end - (i + 1)) (i + 1)
unfolding count
count_first end i h = let k : end - i ≡ suc (end - (i + 1)) = omega arith in rw k

pub count_all : (P : ℕ → Type 0) (n i : ℕ) → ((j : ℕ) → i ≤ j → j < i + n → P j) → All P (count n i)
unfolding count
count_all P zero i f = none
count_all P (suc n) i f = more (f i (omega arith) (omega arith)) (count_all P n (i + 1) (λ j a b. f j (omega arith) (omega arith)))

pub count_in : (n i j : ℕ) → i ≤ j → j < i + n → In j (count n i)
unfolding count
count_in zero i j a b = absurd (omega arith)
count_in (suc n) i j a b = by (ℕ_discrete i j) (λ e. count_in n (i + 1) j (omega arith) (omega arith))
  where
    by : Dec (i ≡ j) → ((i ≡ j → ⊥) → In j (count n (i + 1))) → In j (i ∷ count n (i + 1))
    by (yes e) rest = rw e here
    by (no e) rest = there (rest e)

-- ---- those of a list that pass a test

pub those_yes : (f : ℕ → Bool) (i : ℕ) (is : List ℕ) → f i ≡ true → those f (i ∷ is) ≡ i ∷ those f is
unfolding those
those_yes f i is e = rw e

pub those_no : (f : ℕ → Bool) (i : ℕ) (is : List ℕ) → f i ≡ false → those f (i ∷ is) ≡ those f is
unfolding those
those_no f i is e = rw e

-- they pass it, and have what all of the list have
pub those_all : (P : ℕ → Type 0) (f : ℕ → Bool) (is : List ℕ) → All P is → All (λ i. P i × (f i ≡ true)) (those f is)
unfolding those
those_all P f [] a = none
those_all P f (i ∷ is) (more p a) = by (f i) refl (those_all P f is a)
  where
    by : (b : Bool) → f i ≡ b → All (λ i. P i × (f i ≡ true)) (those f is) → All (λ i. P i × (f i ≡ true)) (those f (i ∷ is))
    by true e rest = rw (those_yes f i is e) (more (p, e) rest)
    by false e rest = rw (those_no f i is e) rest

-- one that passes is among them
pub those_in : (f : ℕ → Bool) {i : ℕ} {is : List ℕ} → In i is → f i ≡ true → In i (those f is)
those_in f (here {is}) e = rw (those_yes f _ is e) here
those_in f {i = i} (there {j} {is} n) e = by (f j) refl (those_in f n e)
  where
    by : (b : Bool) → f j ≡ b → In i (those f is) → In i (those f (j ∷ is))
    by true d rest = rw (those_yes f j is d) (there rest)
    by false d rest = rw (those_no f j is d) rest

pub those_length : (f : ℕ → Bool) (is : List ℕ) → length (those f is) ≤ length is
unfolding those
those_length f [] = omega arith
those_length f (i ∷ is) = by (f i) refl (those_length f is)
  where
    by : (b : Bool) → f i ≡ b → length (those f is) ≤ length is → length (those f (i ∷ is)) ≤ length (i ∷ is)
    by true e rest = rw (those_yes f i is e) (omega arith)
    by false e rest = rw (those_no f i is e) (omega arith)

-- ---- a test that passes at each number of a list

pub and_left : (a b : Bool) → (a && b) ≡ true → a ≡ true
and_left true b e = refl
and_left false b e = e

pub and_right : (a b : Bool) → (a && b) ≡ true → b ≡ true
and_right true b e = e
and_right false b e = let z : ◌≡◌ {A = ℕ} 0 1 = cc in absurd (omega arith)

pub both_true : (a b : Bool) → a ≡ true → b ≡ true → (a && b) ≡ true
both_true a b e d = rw (e, d)

pub all_passes : (f : ℕ → Bool) (is : List ℕ) → all is f ≡ true → All (λ i. f i ≡ true) is
unfolding all
all_passes f [] e = none
all_passes f (i ∷ is) e = more (and_left (f i) (all is f) e) (all_passes f is (and_right (f i) (all is f) e))

pub passes_all : (f : ℕ → Bool) (is : List ℕ) → All (λ i. f i ≡ true) is → all is f ≡ true
unfolding all
passes_all f [] a = refl
passes_all f (i ∷ is) (more p a) = both_true (f i) (all is f) p (passes_all f is a)

-- of a counted list: at each number, and from each number
pub all_at : (f : ℕ → Bool) (n i : ℕ) → all (count n i) f ≡ true → (j : ℕ) → i ≤ j → j < i + n → f j ≡ true
all_at f n i e j a b = all_in (all_passes f (count n i) e) j (count_in n i j a b)

pub at_all : (f : ℕ → Bool) (n i : ℕ) → ((j : ℕ) → i ≤ j → j < i + n → f j ≡ true) → all (count n i) f ≡ true
at_all f n i g = passes_all f (count n i) (count_all (λ j. f j ≡ true) n i g)
