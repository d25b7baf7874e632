-- Ascending lists of numbers, masks to which each adds its bit, and so the masks of a walk over endpoints and how much it stores.
-- Assumes nothing.
use mathlib.Core.Path.{◌≡◌, refl, sym, ap, ◌∙◌}
use mathlib.Core.Logic.{◌⊎◌, inl, inr}
use mathlib.Core.Bool.{Bool, true, false}
use mathlib.Core.List.{List, [], ◌∷◌, ◌++◌}
use Prim.Native.Nat.{ℕ, zero, suc, ◌+◌, ◌-◌, ◌*◌, ◌/◌, ◌%◌, ◌^◌, ◌≤◌, ◌<◌}
use native.Mathlib.Nat.{pow-suc, add-mul-div_left, add-div_right, div-eq_of_lt, zero-div}
use native.Mathlib.Numerals.{add-one}
use native.Mathlib.Omega.{arith}
use native.Mathlib.Decide.{ℕ_discrete, dec_lt}
use borrow.Author.Tests.{eqb-true, eq-eqb}
use lib.Pow.{pow_pos, pow_mono, pow-add}
use lib.ListN.{length, drop, length-take}
use Rattle.guest.specs.Bytes.{count, those, set_bits, bit, ◌⊕◌}
use Rattle.guest.proofs.ListLaws.{those_yes, those_no}
use Rattle.guest.specs.Prog.{Mem, block, Store}
use Rattle.guest.proofs.ReadLaws.{applied, total}
use Rattle.guest.proofs.StoreLaws.{store, total_append}
use Rattle.definition.specs.Types.{Slot, Table}
use Rattle.definition.specs.Walks.{Walk, begin}
use Rattle.definition.proofs.CountLaws.{Starts, fresh_base, kept_base, kept_ended, Dropping, Adding}

-- ---- lists: what all of a list have, and what is in it

-- ---- ascending lists

-- the numbers of a list ascend, from k at least and below n
pub data Ascends (n : ℕ) : ℕ → List ℕ → Type 0 where
  ends : {k : ℕ} → k ≤ n → Ascends n k []
  next : {k i : ℕ} {is : List ℕ} → k ≤ i → Ascends n (i + 1) is → Ascends n k (i ∷ is)

pub ascends_head : {n k i : ℕ} {is : List ℕ} → Ascends n k (i ∷ is) → (k ≤ i) × Ascends n (i + 1) is
ascends_head (next b a) = (b, a)

-- from a lower number on
pub ascends_from : {n k : ℕ} {is : List ℕ} (j : ℕ) → j ≤ k → Ascends n k is → Ascends n j is
ascends_from j h (ends b) = ends {k = j} (omega arith)
ascends_from j h (next {i = i} b a) = next {k = j} {i = i} (omega arith) a

-- how far they go, and how many they are
pub ascends_below : {n k : ℕ} {is : List ℕ} → Ascends n k is → k ≤ n
ascends_below (ends b) = b
ascends_below (next b a) = omega (arith, ascends_below a)

pub ascends_length : {n k : ℕ} {is : List ℕ} → Ascends n k is → k + length is ≤ n
ascends_length (ends b) = omega arith
ascends_length (next b a) = omega (arith, ascends_length a)

-- counted numbers ascend, and so do those of a list that pass a test
pub count_ascends : (n i : ℕ) → Ascends (i + n) i (count n i)
unfolding count
count_ascends zero i = ends {k = i} (omega arith)
count_ascends (suc n) i = let e : i + suc n ≡ i + 1 + n = omega arith in rw e (next {k = i} {i = i} (omega arith) (count_ascends n (i + 1)))

pub those_ascends : (f : ℕ → Bool) {n k : ℕ} {is : List ℕ} → Ascends n k is → Ascends n k (those f is)
unfolding those
those_ascends f (ends b) = ends b
those_ascends f {n} {k} (next {i = i} {is} b a) = by (f i) refl (those_ascends f a)
  where
    by : (c : Bool) → f i ≡ c → Ascends n (i + 1) (those f is) → Ascends n k (those f (i ∷ is))
    by true e r = rw (those_yes f i is e) (next b r)
    by false e r = rw (those_no f i is e) (ascends_from k (omega arith) r)

-- the set bits of a number ascend
pub bits_ascend : (n i x : ℕ) → Ascends (i + n) i (set_bits n i x)
bits_ascend n i x = those_ascends (bit x) (count_ascends n i)

-- ---- masks

-- no bit but 1 up to k - 1
abbrev pub Mask : ℕ → ℕ → Type 0
Mask k x = (x < 2 ^ k) × (x % 2 ≡ 0)

-- with room for more bits
pub mask_up : (k i x : ℕ) → k ≤ i → Mask k x → Mask i x
mask_up k i x h q = (omega (arith, pow_mono h), q.1)

-- bit i joins the bits below it
pub mask_low : (i x : ℕ) → x < 2 ^ i → x + 2 ^ i < 2 ^ (i + 1)
mask_low i x h = rw (add-one i, pow-suc 2 i) (omega arith)

pub mask_bit : (k i x : ℕ) → 1 ≤ k → k ≤ i → Mask k x → Mask (i + 1) (x + 2 ^ i)
mask_bit k zero x p h q = absurd (omega arith)
mask_bit k (suc i) x p h q =
    let below = mask_up k (suc i) x h q in
    let e : 2 ^ suc i ≡ 2 ^ i * 2 = pow-suc 2 i in
    (mask_low (suc i) x below.0, omega arith)

-- a mask with a bit is not 0
pub bit_some : (i x : ℕ) → x + 2 ^ i ≡ 0 → ⊥
bit_some i x e = omega (arith, pow_pos i)

-- ---- the bits of a mask to which bit i, above all of its bits, was added

below_same : (i x j : ℕ) → j < i → (x + 2 ^ i) / 2 ^ j % 2 ≡ x / 2 ^ j % 2
below_same i x j h =
    let k : i ≡ j + suc (i - suc j) = omega arith in
    let e : 2 ^ i ≡ 2 ^ j * (2 ^ (i - suc j) * 2) =
    ap (λ (n : ℕ). 2 ^ n) k ∙ pow-add 2 j (suc (i - suc j)) ∙ ap (λ (n : ℕ). 2 ^ j * n) (pow-suc 2 (i - suc j)) in
    let q : (x + 2 ^ i) / 2 ^ j ≡ x / 2 ^ j + 2 ^ (i - suc j) * 2 = rw e (add-mul-div_left x (2 ^ (i - suc j) * 2) (pow_pos j)) in
    rw q (omega arith)

bit_here : (i x : ℕ) → x < 2 ^ i → (x + 2 ^ i) / 2 ^ i % 2 ≡ 1
bit_here i x h =
    let q : (x + 2 ^ i) / 2 ^ i ≡ x / 2 ^ i + 1 = add-div_right x (pow_pos i) in
    let z : x / 2 ^ i ≡ 0 = div-eq_of_lt h in
    rw q (omega arith)

above_none : (i x j : ℕ) → x < 2 ^ i → i < j → (x + 2 ^ i) / 2 ^ j ≡ 0
above_none i x j h l =
    let e : 2 ^ suc i ≡ 2 ^ i * 2 = pow-suc 2 i in
    let m : 2 ^ suc i ≤ 2 ^ j = pow_mono l in
    div-eq_of_lt (omega arith)

-- which bits they are
pub bit_of : (i x j : ℕ) → x < 2 ^ i → bit (x + 2 ^ i) j ≡ true → (j ≡ i) ⊎ (bit x j ≡ true)
bit_of i x j h e = by (ℕ_discrete j i) (dec_lt j i) (eqb-true ((x + 2 ^ i) / 2 ^ j % 2) 1 e)
  where
    by : Dec (j ≡ i) → Dec (j < i) → (x + 2 ^ i) / 2 ^ j % 2 ≡ 1 → (j ≡ i) ⊎ (bit x j ≡ true)
    by (yes q) d e = inl q
    by (no q) (yes l) e = inr (eq-eqb (x / 2 ^ j % 2) 1 (sym (below_same i x j l) ∙ e))
    by (no q) (no l) e = let z : (x + 2 ^ i) / 2 ^ j ≡ 0 = above_none i x j h (omega arith) in absurd (omega arith)

pub bit_added : (i x : ℕ) → x < 2 ^ i → bit (x + 2 ^ i) i ≡ true
bit_added i x h = eq-eqb ((x + 2 ^ i) / 2 ^ i % 2) 1 (bit_here i x h)

pub bit_stays : (i x j : ℕ) → x < 2 ^ i → bit x j ≡ true → bit (x + 2 ^ i) j ≡ true
bit_stays i x j h e = by (dec_lt j i) (eqb-true (x / 2 ^ j % 2) 1 e)
  where
    by : Dec (j < i) → x / 2 ^ j % 2 ≡ 1 → bit (x + 2 ^ i) j ≡ true
    by (yes l) e = eq-eqb ((x + 2 ^ i) / 2 ^ j % 2) 1 (below_same i x j l ∙ e)
    by (no l) e =
        let m : 2 ^ i ≤ 2 ^ j = pow_mono (omega arith) in
        let z : x / 2 ^ j ≡ 0 = div-eq_of_lt (omega arith) in absurd (omega arith)

-- 0 has no bit
pub bit_zero : (j : ℕ) → bit 0 j ≡ true → ⊥
bit_zero j e = let z : 0 / 2 ^ j ≡ 0 = zero-div (2 ^ j) in let q : 0 / 2 ^ j % 2 ≡ 1 = eqb-true (0 / 2 ^ j % 2) 1 e in omega arith

-- ---- the masks of a walk, and how much it stores

-- a walk that has terminated endpoints below k and launched some below l
pub record Going (k l : ℕ) (w : Walk) : Type 0 where
  pub ended : Mask k w.terminated
  pub begun : Mask l w.launched
  pub port : w.launched ≡ 0 → w.port ≡ 0

-- on the way down a list of endpoints to terminate, with n bytes at most in all
pub record Drops (n : ℕ) (is : List ℕ) (ws : List Store) (w : Walk) : Type 0 where
  pub from : ℕ
  pub low : 1 ≤ from
  pub left : Ascends 32 from is
  pub going : Going from 1 w
  pub stored : total ws + length is ≤ n

pub drops : (n id base : ℕ) → Dropping id base (Drops n)
unfolding total
drops n id base =
    record {
      skip = λ i is ws w d.
          let h = ascends_head d.left in
          record {
            from = i + 1;
            low = omega arith;
            left = h.1;
            going = record { ended = mask_up d.from (i + 1) w.terminated (omega arith) d.going.ended; begun = d.going.begun; port = d.going.port };
            stored = omega arith;
          };
      go = λ i is ws w d _.
          let h = ascends_head d.left in
          record {
            from = i + 1;
            low = omega arith;
            left = h.1;
            going = record { ended = mask_bit d.from i w.terminated d.low h.0 d.going.ended; begun = d.going.begun; port = d.going.port };
            stored = omega (arith, total_append ws (store (base ⊕ 32 * i) (0 ∷ []) ∷ []));
          };
    }

-- on the way down a list of endpoints to add
pub record Joins (n : ℕ) (is : List ℕ) (ws : List Store) (w : Walk) : Type 0 where
  pub from : ℕ
  pub low : 1 ≤ from
  pub left : Ascends 32 from is
  pub going : Going 32 from w
  pub stored : total ws + 33 * length is ≤ n

pub joins : (n : ℕ) (m : Mem) (id P base : ℕ) → Adding m id P base (Joins n)
unfolding total
joins n m id P base =
    record {
      turn = λ i is ws w d.
          let h = ascends_head d.left in
          record {
            from = i + 1;
            low = omega arith;
            left = h.1;
            going = record {
              ended = d.going.ended;
              begun = mask_bit d.from i w.launched d.low h.0 d.going.begun;
              port = λ e. absurd (bit_some i w.launched e);
            };
            stored = omega (
              arith,
              total_append ws (store (base ⊕ 32 * i) (block (applied m ws) (P ⊕ 32 * (i + 1)) 32) ∷ store (base ⊕ 32 * i) (1 ∷ []) ∷ []),
              length-take 32 (drop (P ⊕ 32 * (i + 1)) (applied m ws)),
            );
          };
    }

-- a walk at its beginning
pub drops_begin : (n : ℕ) {is : List ℕ} (t : Table) → Ascends 32 1 is → length is ≤ n → Drops n is [] (begin t)
unfolding total
drops_begin n t a h =
    record { from = 1; low = omega arith; left = a; going = record { ended = omega arith; begun = omega arith; port = λ _. refl }; stored = omega arith }

-- a walk that came to its end
pub drops_end : (n : ℕ) (ws : List Store) (w : Walk) → Drops n [] ws w → Going 32 1 w × (total ws ≤ n)
drops_end n ws w d =
    (record { ended = mask_up d.from 32 w.terminated (ascends_below d.left) d.going.ended; begun = d.going.begun; port = d.going.port }, omega arith)

-- launched endpoints lie below 32
pub going_end : (l : ℕ) (w : Walk) → l ≤ 32 → Going 32 l w → Going 32 32 w
going_end l w h g = record { ended = g.ended; begun = mask_up l 32 w.launched h g.begun; port = g.port }

-- at most thirty flags
pub bits_few : (x : ℕ) → length (set_bits 30 2 x) ≤ 30
bits_few x = omega (arith, ascends_length (bits_ascend 30 2 x))

-- one byte more
pub one_more : (ws : List Store) (a b : ℕ) → total (ws ++ store a (b ∷ []) ∷ []) ≡ total ws + 1
unfolding total
one_more ws a b = total_append ws (store a (b ∷ []) ∷ [])

-- how Address Device begins
pub started : {m : Mem} {id : ℕ} {s : Slot} {t : Table} {ws : List Store} {base : ℕ} {w : Walk} → Starts m id s t ws base w → Going 2 1 w × (total ws ≤ 1)
unfolding total
started (fresh_base e) = (record { ended = omega arith; begun = omega arith; port = λ _. refl }, omega arith)
started (kept_base e) = (record { ended = omega arith; begun = omega arith; port = λ _. refl }, omega arith)
started (kept_ended e) = (record { ended = omega arith; begun = omega arith; port = λ _. refl }, omega arith)
