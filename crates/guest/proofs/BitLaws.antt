-- Laws of flag bits: those of a list, counted lists, the lowest set bit.
-- Assumes nothing.
use Rattle.std.proofs.Common.{◌≡◌, ℕ, zero, suc, ◌+◌, ◌-◌, ◌*◌, ◌/◌, ◌%◌, ◌^◌, ◌<◌, ◌≤◌, true, false, cond, eqb, ◌⊎◌, List, [], ◌∷◌, sym, refl, ap, ◌∙◌, ap₂, inl, inr, ⊎_elim, add-zero, add-suc, suc-add, pow-suc, zero-add, div-one, add-one, arith}
use native.Mathlib.Nat.{zero-min, div-div-eq-div-mul}
use Rattle.guest.proofs.ListLaws.{count_first, count_none, those_yes, those_no}
use lib.Bits.{bit_and, and_step, and_self}
use lib.Count.{count_trailing_zeros}
use Rattle.guest.specs.Bytes.{bit, count, those, set_bits}

-- ---- a loop that looks at each flag from i up to `end`

-- i comes first where its flag is set
pub flag_set : (end i x : ℕ) → i < end → bit x i ≡ true → set_bits (end - i) i x ≡ i ∷ set_bits (end - (i + 1)) (i + 1) x
flag_set end i x h e = ap (those (bit x)) (count_first end i h) ∙ those_yes (bit x) i _ e

-- it is passed over where its flag is clear
pub flag_clear : (end i x : ℕ) → i < end → bit x i ≡ false → set_bits (end - i) i x ≡ set_bits (end - (i + 1)) (i + 1) x
flag_clear end i x h e = ap (those (bit x)) (count_first end i h) ∙ those_no (bit x) i _ e

-- none is left
pub flags_done : (end i x : ℕ) → end ≤ i → set_bits (end - i) i x ≡ []
unfolding those
flags_done end i x h = ap (those (bit x)) (count_none (end - i) i (omega arith))

-- ---- the set bits, lowest first

-- the same by halving: bit i is the lowest of n
halved : ℕ → ℕ → ℕ → List ℕ
halved zero i n = []
halved (suc k) i n = cond (eqb (n % 2) 1) (i ∷ halved k (suc i) (n / 2)) (halved k (suc i) (n / 2))

set_halved : (k i x : ℕ) → set_bits k i x ≡ halved k i (x / 2 ^ i)
unfolding those count halved
set_halved zero i x = refl
set_halved (suc k) i x =
    let e : x / 2 ^ i / 2 ≡ x / 2 ^ suc i = rw (pow-suc 2 i) (div-div-eq-div-mul x (2 ^ i) 2) in
    rw (add-one i, set_halved k (suc i) x, e)

-- a number is twice its half, or that and one
parity : (n : ℕ) → ((n % 2 ≡ 0) × (n ≡ n / 2 * 2)) ⊎ ((n % 2 ≡ 1) × (n ≡ n / 2 * 2 + 1))
parity n = by_digit (n % 2) refl
  where
    by_digit : (d : ℕ) → n % 2 ≡ d → ((n % 2 ≡ 0) × (n ≡ n / 2 * 2)) ⊎ ((n % 2 ≡ 1) × (n ≡ n / 2 * 2 + 1))
    by_digit zero e = inl (omega arith)
    by_digit (suc d) e = inr (omega arith)

halved_none : (k i : ℕ) → halved k i 0 ≡ []
unfolding halved
halved_none zero i = refl
halved_none (suc k) i = halved_none k (suc i)

halved_lowest : (k i n : ℕ) → 0 < n → n < 2 ^ k → halved k i n ≡ (i + count_trailing_zeros k n) ∷ halved k i (n - 2 ^ count_trailing_zeros k n)
unfolding count_trailing_zeros halved
halved_lowest zero i n p h = absurd (omega arith)
halved_lowest (suc k) i n p h =
    let half : n / 2 < 2 ^ k = let e : 2 ^ suc k ≡ 2 ^ k * 2 = pow-suc 2 k in omega arith in
    ⊎_elim
    (λ (w : (n % 2 ≡ 0) × (n ≡ n / 2 * 2)).
    let t = count_trailing_zeros k (n / 2) in
    let a : (n - 2 ^ suc t) / 2 ≡ n / 2 - 2 ^ t = rw (pow-suc 2 t) (omega arith) in
    let b : (n - 2 ^ suc t) % 2 ≡ 0 = rw (pow-suc 2 t) (omega arith) in
    rw (w.0, a, b, add-suc i t, ← suc-add i t) (halved_lowest k (suc i) (n / 2) (omega arith) half))
    (λ (w : (n % 2 ≡ 1) × (n ≡ n / 2 * 2 + 1)).
    let a : (n - 1) / 2 ≡ n / 2 = omega arith in
    let b : (n - 1) % 2 ≡ 0 = omega arith in
    rw (w.0, a, b, add-zero i)) (parity n)

-- zero has no set bit
pub set_bits_none : (k : ℕ) → set_bits k 0 0 ≡ []
set_bits_none k = set_halved k 0 0 ∙ halved_none k 0

-- the lowest set bit comes first, and those of the number without it follow
pub set_bits_lowest : (k n : ℕ) → 0 < n → n < 2 ^ k → set_bits k 0 n ≡ count_trailing_zeros k n ∷ set_bits k 0 (n - 2 ^ count_trailing_zeros k n)
set_bits_lowest k n p h =
    let t = count_trailing_zeros k n in
    set_halved k 0 n
    ∙ ap (halved k 0) (div-one n)
    ∙ halved_lowest k 0 n p h
    ∙ ap₂ (λ (j : ℕ) (is : List ℕ). j ∷ is) (zero-add t) (sym (set_halved k 0 (n - 2 ^ t) ∙ ap (halved k 0) (div-one (n - 2 ^ t))))

even_step : (n t : ℕ) → n % 2 ≡ 0 → 0 < n → bit_and (n / 2) (n / 2 - 1) ≡ n / 2 - 2 ^ t → bit_and n (n - 1) ≡ n - 2 ^ suc t
even_step n t e p ih =
    let a : (n - 1) / 2 ≡ n / 2 - 1 = omega arith in
    rw (and_step n (n - 1), a, ih, e, pow-suc 2 t, zero-min) (omega arith)

odd_step : (n : ℕ) → n % 2 ≡ 1 → bit_and n (n - 1) ≡ n - 1
odd_step n e =
    let a : (n - 1) / 2 ≡ n / 2 = omega arith in
    let b : (n - 1) % 2 ≡ 0 = omega arith in
    rw (and_step n (n - 1), a, b, e, and_self (n / 2)) (omega arith)

-- n & (n - 1) is n without its lowest set bit
pub and_pred : (k n : ℕ) → 0 < n → n < 2 ^ k → bit_and n (n - 1) ≡ n - 2 ^ count_trailing_zeros k n
unfolding count_trailing_zeros
and_pred zero n p h = absurd (omega arith)
and_pred (suc k) n p h =
    let half : n / 2 < 2 ^ k = let e : 2 ^ suc k ≡ 2 ^ k * 2 = pow-suc 2 k in omega arith in
    ⊎_elim
    (λ w. rw w.0 (even_step n (count_trailing_zeros k (n / 2)) w.0 p (and_pred k (n / 2) (omega arith) half)))
    (λ w. rw w.0 (odd_step n w.0)) (parity n)
