-- Laws of a run, so that no definition of the language is opened above this crate.
-- Assumes nothing.
use Rattle.std.proofs.Common.{◌≡◌, ℕ, ◌+◌, ◌<◌, ◌≤◌, Bool, true, false, cond, ◌&&◌, ◌⊎◌, List, length, sym, refl, ap, ◌∙◌, inl, inr, ⊎_elim, add-zero, add_assoc, zero-add, arith, le-leb, leb-false, leb-true}
use borrow.Author.Tests.{lt-leb}
use Rattle.guest.specs.Bytes.{inside, located}
use Rattle.std.specs.Prelude.{Some, None}
use Rattle.guest.specs.Prog.{Mem, Prog, done, get, put, block, splice, Ran, ran, run, Ends, choose, bind, Result, ok, refuse, need, passed, and_then}

-- a refusal is no value
pub refuse_ok : {A : Type 0} (c : ℕ) (x : A) → refuse c ≡ ok x → ⊥
refuse_ok c x e = let z : ◌≡◌ {A = ℕ} 0 1 = cc in omega arith

module _ {A : Type 0} where
  pub run_done : (x : A) (m : Mem) (s : ℕ) → run (done x) m s ≡ ran x m s
  unfolding run
  run_done x m s = refl

  pub run_get : (a n : ℕ) (k : List ℕ → Prog A) (m : Mem) (s : ℕ) → run (get a n k) m s ≡ run (k (block m a n)) m s
  unfolding run
  run_get a n k m s = refl

  pub run_put : (a : ℕ) (bs : List ℕ) (p : Prog A) (m : Mem) (s : ℕ) → run (put a bs p) m s ≡ run p (splice m a bs) (s + length bs)
  unfolding run
  run_put a bs p m s = refl

  -- what was stored before only adds to the count
  pub run_from : (p : Prog A) (m : Mem) (s : ℕ) → run p m s ≡ ran (run p m 0).value (run p m 0).memory (s + (run p m 0).stored)
  unfolding run
  run_from (done x) m s = rw (add-zero s)
  run_from (get a n k) m s = run_from (k (block m a n)) m s
  run_from (put a bs p) m s =
      rw (run_from p (splice m a bs) (s + length bs), run_from p (splice m a bs) (0 + length bs), zero-add (length bs), add_assoc s)

-- ---- a test

pub choose_yes : {A : Type 0} (b : Bool) (p q : Prog A) → b ≡ true → choose b p q ≡ p
unfolding choose
choose_yes b p q e = rw e

pub choose_no : {A : Type 0} (b : Bool) (p q : Prog A) → b ≡ false → choose b p q ≡ q
unfolding choose
choose_no b p q e = rw e

-- ---- a range

pub inside_yes : (len a n : ℕ) → inside len a n ≡ true → a + n ≤ len
unfolding inside
inside_yes len a n e = leb-true (a + n) len e

pub inside_no : (len a n : ℕ) → inside len a n ≡ false → len < a + n
unfolding inside
inside_no len a n e = leb-false (a + n) len e

pub is_inside : (len a n : ℕ) → a + n ≤ len → inside len a n ≡ true
unfolding inside
is_inside len a n h = le-leb (a + n) len h

pub is_outside : (len a n : ℕ) → len < a + n → inside len a n ≡ false
unfolding inside
is_outside len a n h = lt-leb (a + n) len h

pub need_yes : {A : Type 0} (len a n : ℕ) (p : Prog (Result A)) → a + n ≤ len → need len a n p ≡ p
unfolding need
need_yes len a n p h = choose_yes (inside len a n) p (done (refuse 193)) (is_inside len a n h)

pub need_no : {A : Type 0} (len a n : ℕ) (p : Prog (Result A)) → len < a + n → need len a n p ≡ done (refuse 193)
unfolding need
need_no len a n p h = choose_no (inside len a n) p (done (refuse 193)) (is_outside len a n h)

-- ---- what `locate` tells of a range

module _ (len a n : ℕ) where
  -- it stands at its address, and lies in memory
  pub located_at : {i : ℕ} → located len a n ≡ Some i → (i ≡ a) × (inside len a n ≡ true)
  located_at {i} e = by (inside len a n) refl e
    where
      by : (b : Bool) → inside len a n ≡ b → cond b (Some a) None ≡ Some i → (i ≡ a) × (inside len a n ≡ true)
      by true h e = (cc, h)
      by false h e = let z : ◌≡◌ {A = ℕ} 0 1 = cc in absurd (omega arith)

  -- so the index can be read at
  pub located_fits : {i : ℕ} → located len a n ≡ Some i → i + n ≤ len
  located_fits e = let p = located_at e in omega (arith, p.0, inside_yes len a n p.1)

  -- it does not lie in memory
  pub located_outside : located len a n ≡ None → inside len a n ≡ false
  located_outside e = by (inside len a n) refl e
    where
      by : (b : Bool) → inside len a n ≡ b → cond b (Some a) None ≡ None → inside len a n ≡ false
      by true h e = let z : ◌≡◌ {A = ℕ} 0 1 = cc in absurd (omega arith)
      by false h e = h

-- ---- one program and then another

pub run_bind : {A B : Type 0} (p : Prog A) (f : A → Prog B) (m : Mem) (s : ℕ)
    → run (bind p f) m s ≡ run (f (run p m s).value) (run p m s).memory (run p m s).stored
unfolding run bind
run_bind (done x) f m s = refl
run_bind (get a n k) f m s = run_bind (k (block m a n)) f m s
run_bind (put a bs p) f m s = run_bind p f (splice m a bs) (s + length bs)

-- where a promise says how p ends, the rest goes on from there
pub after : {A B : Type 0} {p : Prog A} (f : A → Prog B) {m : Mem} {s : ℕ} {x : A} {m' : Mem} {s' : ℕ}
    → Ends p m s x m' s' → run (bind p f) m s ≡ run (f x) m' s'
after {A} {B} {p} f {m} {s} e = run_bind p f m s ∙ ap (λ (r : Ran A). run (f r.value) r.memory r.stored) e.ends

-- a value given
pub passes : {A B : Type 0} {p : Prog (Result A)} (f : A → Prog (Result B)) {m : Mem} {s : ℕ} {x : A} {m' : Mem} {s' : ℕ}
    → Ends p m s (ok x) m' s' → run (and_then p f) m s ≡ run (f x) m' s'
unfolding and_then passed
passes f e = after (passed f) e

-- a refusal
pub refuses : {A B : Type 0} {p : Prog (Result A)} (f : A → Prog (Result B)) {m : Mem} {s : ℕ} {c : ℕ} {m' : Mem} {s' : ℕ}
    → Ends p m s (refuse c) m' s' → Ends (and_then p f) m s (refuse c) m' s'
unfolding and_then passed run
refuses f e = record { ends = after (passed f) e }

-- ---- what a value tells of the way to it

pub value_choose : {A : Type 0} (b : Bool) (p q : Prog A) (m : Mem) (s : ℕ) {x : A} → (run (choose b p q) m s).value ≡ x
    → ((b ≡ true) × ((run p m s).value ≡ x)) ⊎ ((b ≡ false) × ((run q m s).value ≡ x))
unfolding choose
value_choose true p q m s e = inl (refl, e)
value_choose false p q m s e = inr (refl, e)

-- a refusal gives none
pub value_refuse : {A : Type 0} (c : ℕ) (m : Mem) (s : ℕ) {x : A} → (run (done (refuse c)) m s).value ≡ ok x → ⊥
unfolding run
value_refuse c m s {x} e = refuse_ok c x e

pub value_need : {A : Type 0} (len a n : ℕ) (p : Prog (Result A)) (m : Mem) (s : ℕ) {x : A} → (run (need len a n p) m s).value ≡ ok x
    → (a + n ≤ len) × ((run p m s).value ≡ ok x)
unfolding need
value_need len a n p m s e =
    ⊎_elim (λ i. (inside_yes len a n i.0, i.1)) (λ o. absurd (value_refuse 193 m s o.1)) (value_choose (inside len a n) p _ m s e)

pub value_get : {A : Type 0} (a n : ℕ) (k : List ℕ → Prog A) (m : Mem) (s : ℕ) {x : A} → (run (get a n k) m s).value ≡ x → (run (k (block m a n)) m s).value ≡ x
unfolding run
value_get a n k m s e = e

-- a value of the whole: the first part gave one, and the second goes on from there
pub then_value : {A B : Type 0} (p : Prog (Result A)) (f : A → Prog (Result B)) (m : Mem) (s : ℕ) {y : B} → (run (and_then p f) m s).value ≡ ok y
    → (x : A) × ((run p m s).value ≡ ok x) × ((run (f x) (run p m s).memory (run p m s).stored).value ≡ ok y)
unfolding and_then passed run
then_value {A} {B} p f m s {y} e =
    by (run p m s).value refl (ap (λ (r : Ran (Result B)). r.value) (sym (run_bind p (passed f) m s)) ∙ e)
  where
    by : (r : Result A) → (run p m s).value ≡ r → (run (passed f r) (run p m s).memory (run p m s).stored).value ≡ ok y
        → (x : A) × ((run p m s).value ≡ ok x) × ((run (f x) (run p m s).memory (run p m s).stored).value ≡ ok y)
    by (ok x) d q = (x, d, q)
    by (refuse c) d q = absurd (refuse_ok c y q)

-- a value, at once
pub ends_done : {A : Type 0} (x : A) (m : Mem) (s : ℕ) → Ends (done x) m s x m s
ends_done x m s = record { ends = run_done x m s }

-- how a program ends is settled: two promises on one program agree
pub one_end : {A : Type 0} {p : Prog A} {m : Mem} {s : ℕ} {x y : A} {m₁ m₂ : Mem} {s₁ s₂ : ℕ} → Ends p m s x m₁ s₁ → Ends p m s y m₂ s₂
    → (x ≡ y) × (m₁ ≡ m₂) × (s₁ ≡ s₂)
one_end {A} d e =
    let q = sym d.ends ∙ e.ends in
    (ap (λ (r : Ran A). r.value) q, ap (λ (r : Ran A). r.memory) q, ap (λ (r : Ran A). r.stored) q)

-- the same end from another count
pub ends_from : {A : Type 0} {p : Prog A} {m : Mem} {x : A} {m' : Mem} {n : ℕ} → Ends p m 0 x m' n → (s : ℕ) → Ends p m s x m' (s + n)
ends_from {A} {p} {m} e s =
    record { ends = run_from p m s ∙ ap (λ (r : Ran A). ran r.value r.memory (s + r.stored)) e.ends }

-- a program and then a value made of what it gives
pub ends_value : {A B : Type 0} {p : Prog A} (f : A → B) {m : Mem} {s : ℕ} {x : A} {m' : Mem} {s' : ℕ} → Ends p m s x m' s'
    → Ends (bind p λ y. done (f y)) m s (f x) m' s'
ends_value f e = record { ends = after (λ y. done (f y)) e ∙ run_done (f _) _ _ }

-- ---- checks that are tests

module _ {A : Type 0} (x y : A) (m : Mem) (s : ℕ) where
  pub ends_test : (b : Bool) → Ends (choose b (done x) (done y)) m s (cond b x y) m s
  unfolding choose run
  ends_test true = record { ends = refl }
  ends_test false = record { ends = refl }

  pub ends_both : (a b : Bool) → Ends (choose a (choose b (done x) (done y)) (done y)) m s (cond (a && b) x y) m s
  unfolding choose run
  ends_both true b = ends_test b
  ends_both false b = record { ends = refl }
