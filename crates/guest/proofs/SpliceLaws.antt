-- Laws of a store to memory.
-- Assumes nothing.
use Rattle.std.proofs.Common.{◌≡◌, ℕ, zero, suc, ◌+◌, ◌-◌, ◌<◌, ◌≤◌, ◌⊎◌, List, [], ◌∷◌, ◌++◌, length, get_or, take, drop, set, sym, refl, ap, ◌∙◌, ⊎_elim, append_assoc, le_of_suc-le-suc, not-suc-le-zero, suc-add, zero-add, arith, length-drop, length-take, get_or-drop, get_or-set_other, get_or-take, ext_get_or}
use native.Mathlib.Decide.{dec_le, dec_lt}
use lib.ListN.{get_or-eq_default}
use lib.Seq.{sets, length-sets, sets-eq}
use Rattle.guest.specs.Prog.{Mem, splice, block, Within}

sets_nil : (a : ℕ) (bs : List ℕ) → sets [] a bs ≡ []
sets_nil a [] = refl
sets_nil a (b ∷ bs) = sets_nil (suc a) bs

sets_cons : (x : ℕ) (m : Mem) (a : ℕ) (bs : List ℕ) → sets (x ∷ m) (suc a) bs ≡ x ∷ sets m a bs
sets_cons x m a [] = refl
sets_cons x m a (b ∷ bs) = sets_cons x (set m a b) (suc a) bs

-- a store byte by byte
pub splice_sets : (m : Mem) (a : ℕ) (bs : List ℕ) → splice m a bs ≡ sets m a bs
unfolding splice
splice_sets [] a bs = sym (sets_nil a bs)
splice_sets (x ∷ m) (suc a) bs = ap (λ (l : Mem). x ∷ l) (splice_sets m a bs) ∙ sym (sets_cons x m a bs)
splice_sets (x ∷ m) zero [] = refl
splice_sets (x ∷ m) zero (b ∷ bs) = ap (λ (l : Mem). b ∷ l) (splice_sets m zero bs) ∙ sym (sets_cons b m zero bs)

-- the length is kept
pub splice_length : (m : Mem) (a : ℕ) (bs : List ℕ) → length (splice m a bs) ≡ length m
splice_length m a bs = ap length (splice_sets m a bs) ∙ length-sets m a bs

-- a store inside memory, as what lies before it, the bytes, and what lies behind it
pub splice_parts : (m : Mem) (a : ℕ) (bs : List ℕ) → a + length bs ≤ length m → splice m a bs ≡ take a m ++ (bs ++ drop (a + length bs) m)
splice_parts m a bs h = splice_sets m a bs ∙ sets-eq bs m a h ∙ append_assoc (take a m) bs (drop (a + length bs) m)

sets_other : (m : Mem) (b : ℕ) (bs : List ℕ) (a : ℕ) → (Within b (length bs) a → ⊥) → get_or (sets m b bs) a 0 ≡ get_or m a 0
sets_other m b [] a h = refl
sets_other m b (v ∷ vs) a h =
    sets_other (set m b v) (suc b) vs a (λ w. h (omega (arith, w.0, w.1)))
    ∙ get_or-set_other m b a v 0 (λ e. h (omega (arith, e)))

-- a byte outside the store is kept
pub splice_other : (m : Mem) (b : ℕ) (bs : List ℕ) (a : ℕ) → (Within b (length bs) a → ⊥) → get_or (splice m b bs) a 0 ≡ get_or m a 0
splice_other m b bs a h = rw (splice_sets m b bs) (sets_other m b bs a h)

-- a byte inside it is the byte stored
pub splice_at : (m : Mem) (b : ℕ) (bs : List ℕ) (i : ℕ) → b + i < length m → i < length bs → get_or (splice m b bs) (b + i) 0 ≡ get_or bs i 0
unfolding splice
splice_at [] b bs i l h = absurd (not-suc-le-zero l)
splice_at (x ∷ m) zero [] i l h = absurd (not-suc-le-zero h)
splice_at (x ∷ m) zero (v ∷ vs) zero l h = refl
splice_at (x ∷ m) zero (v ∷ vs) (suc i) l h =
    let k : suc i < length (x ∷ m) = rw (zero-add (suc i)) at l in
    rw (zero-add (suc i)) (sym (ap (λ (n : ℕ). get_or (splice m zero vs) n 0) (zero-add i)) ∙ splice_at m zero vs i (omega arith) (le_of_suc-le-suc h))
splice_at (x ∷ m) (suc b) bs i l h =
    let k : suc b + i < length (x ∷ m) = l in
    rw (suc-add b i) (splice_at m b bs i (omega arith) h)

-- two memories of one length that agree at a, or where the store covers a, agree there after it
pub splice_same : (m₁ m₂ : Mem) (b : ℕ) (bs : List ℕ) (a : ℕ) → length m₁ ≡ length m₂
    → ((Within b (length bs) a → ⊥) → get_or m₁ a 0 ≡ get_or m₂ a 0) → get_or (splice m₁ b bs) a 0 ≡ get_or (splice m₂ b bs) a 0
splice_same m₁ m₂ b bs a e h = covered (dec_le b a) (dec_lt a (b + length bs)) (dec_lt a (length m₁))
  where
    free : (Within b (length bs) a → ⊥) → get_or (splice m₁ b bs) a 0 ≡ get_or (splice m₂ b bs) a 0
    free n = splice_other m₁ b bs a n ∙ h n ∙ sym (splice_other m₂ b bs a n)

    hit : b ≤ a → a < b + length bs → a < length m₁ → get_or (splice m₁ b bs) a 0 ≡ get_or (splice m₂ b bs) a 0
    hit l g n =
        let k : b + (a - b) ≡ a = omega arith in
        let i : a - b < length bs = omega arith in
        rw (← k) (splice_at m₁ b bs (a - b) (omega arith) i ∙ sym (splice_at m₂ b bs (a - b) (omega arith) i))

    past : length m₁ ≤ a → get_or (splice m₁ b bs) a 0 ≡ get_or (splice m₂ b bs) a 0
    past l =
        get_or-eq_default (splice m₁ b bs) 0 (omega (arith, splice_length m₁ b bs))
        ∙ sym (get_or-eq_default (splice m₂ b bs) 0 (omega (arith, splice_length m₂ b bs)))

    covered : Dec (b ≤ a) → Dec (a < b + length bs) → Dec (a < length m₁) → get_or (splice m₁ b bs) a 0 ≡ get_or (splice m₂ b bs) a 0
    covered (yes l) (yes g) (yes n) = hit l g n
    covered (yes l) (yes g) (no n) = past (omega arith)
    covered (yes l) (no g) d = free (λ w. g w.1)
    covered (no l) g d = free (λ w. l w.0)

-- two stores to ranges that do not meet may change places
pub splice_swap : (m : Mem) (a b : ℕ) (xs ys : List ℕ) → (a + length xs ≤ b) ⊎ (b + length ys ≤ a)
    → splice (splice m a xs) b ys ≡ splice (splice m b ys) a xs
splice_swap m a b xs ys apart =
    ext_get_or 0 _ _ (long (splice m a xs) b ys ∙ splice_length m a xs ∙ sym (long (splice m b ys) a xs ∙ splice_length m b ys))
    (λ i l. at i (omega (arith, long (splice m a xs) b ys, splice_length m a xs)) (dec_le a i) (dec_lt i (a + length xs)) (dec_le b i) (dec_lt i (b + length ys)))
  where
    long : (m : Mem) (a : ℕ) (bs : List ℕ) → length (splice m a bs) ≡ length m
    long = splice_length

    -- where the first store is, it stands in both; so with the second, and elsewhere neither is
    first : (i : ℕ) → i < length m → a ≤ i → i < a + length xs → get_or (splice (splice m a xs) b ys) i 0 ≡ get_or (splice (splice m b ys) a xs) i 0
    first i l p q =
        let n : Within b (length ys) i → ⊥ = λ w. ⊎_elim (λ e. omega arith) (λ e. omega arith) apart in
        let k : a + (i - a) ≡ i = omega arith in
        splice_other (splice m a xs) b ys i n
        ∙ rw (← k)
        (splice_at m a xs (i - a) (omega arith) (omega arith)
        ∙ sym (splice_at (splice m b ys) a xs (i - a) (omega (arith, splice_length m b ys)) (omega arith)))

    second : (i : ℕ) → i < length m → (Within a (length xs) i → ⊥) → b ≤ i → i < b + length ys
        → get_or (splice (splice m a xs) b ys) i 0 ≡ get_or (splice (splice m b ys) a xs) i 0
    second i l n p q =
        let k : b + (i - b) ≡ i = omega arith in
        rw (← k) (splice_at (splice m a xs) b ys (i - b) (omega (arith, splice_length m a xs)) (omega arith) ∙ sym (splice_at m b ys (i - b) (omega arith) (omega arith)))
        ∙ sym (splice_other (splice m b ys) a xs i n)

    neither : (i : ℕ) → (Within a (length xs) i → ⊥) → (Within b (length ys) i → ⊥)
        → get_or (splice (splice m a xs) b ys) i 0 ≡ get_or (splice (splice m b ys) a xs) i 0
    neither i n k =
        splice_other (splice m a xs) b ys i k ∙ splice_other m a xs i n ∙ sym (splice_other (splice m b ys) a xs i n ∙ splice_other m b ys i k)

    outside : (i : ℕ) → i < length m → (Within a (length xs) i → ⊥) → Dec (b ≤ i) → Dec (i < b + length ys)
        → get_or (splice (splice m a xs) b ys) i 0 ≡ get_or (splice (splice m b ys) a xs) i 0
    outside i l n (yes p) (yes q) = second i l n p q
    outside i l n (yes p) (no q) = neither i n (λ w. q w.1)
    outside i l n (no p) d = neither i n (λ w. p w.0)

    at : (i : ℕ) → i < length m → Dec (a ≤ i) → Dec (i < a + length xs) → Dec (b ≤ i) → Dec (i < b + length ys)
        → get_or (splice (splice m a xs) b ys) i 0 ≡ get_or (splice (splice m b ys) a xs) i 0
    at i l (yes p) (yes q) d e = first i l p q
    at i l (yes p) (no q) d e = outside i l (λ w. q w.1) d e
    at i l (no p) q d e = outside i l (λ w. p w.0) d e

-- the n bytes at an address inside memory are n
pub block_length : (m : Mem) (a n : ℕ) → a + n ≤ length m → length (block m a n) ≡ n
block_length m a n h = omega (arith, length-take n (drop a m), length-drop a m)

-- a byte of a block
pub block_at : (m : Mem) (a n i : ℕ) → i < n → get_or (block m a n) i 0 ≡ get_or m (a + i) 0
block_at m a n i h = get_or-take n (drop a m) i 0 h ∙ get_or-drop a m i 0

-- two blocks whose bytes agree are equal
pub block_same : (m₁ m₂ : Mem) (b n : ℕ) → length m₁ ≡ length m₂ → ((a : ℕ) → Within b n a → get_or m₁ a 0 ≡ get_or m₂ a 0) → block m₁ b n ≡ block m₂ b n
block_same m₁ m₂ b n e h =
    ext_get_or 0 (block m₁ b n) (block m₂ b n) (simp (length-take, length-drop, e))
    (λ i l.
    let i<n : i < n = omega (arith, l, length-take n (drop b m₁)) in
    block_at m₁ b n i i<n ∙ h (b + i) (omega arith) ∙ sym (block_at m₂ b n i i<n))

-- a block that the store does not meet is kept
pub block_other : (m : Mem) (a n b : ℕ) (bs : List ℕ) → (a + n ≤ b) ⊎ (b + length bs ≤ a) → block (splice m b bs) a n ≡ block m a n
block_other m a n b bs apart =
    block_same (splice m b bs) m a n (splice_length m b bs)
    (λ i w. splice_other m b bs i (λ v. ⊎_elim (λ e. omega arith) (λ e. omega arith) apart))

-- a block inside the bytes just stored
pub block_here : (m : Mem) (b : ℕ) (bs : List ℕ) (i n : ℕ) → b + length bs ≤ length m → i + n ≤ length bs → block (splice m b bs) (b + i) n ≡ block bs i n
block_here m b bs i n h l =
    ext_get_or 0 (block (splice m b bs) (b + i) n) (block bs i n)
    (block_length (splice m b bs) (b + i) n (omega (arith, splice_length m b bs)) ∙ sym (block_length bs i n l))
    (λ j k.
    let j<n : j < n = omega (arith, k, block_length (splice m b bs) (b + i) n (omega (arith, splice_length m b bs))) in
    let e : b + i + j ≡ b + (i + j) = omega arith in
    block_at (splice m b bs) (b + i) n j j<n
    ∙ rw e (splice_at m b bs (i + j) (omega arith) (omega arith))
    ∙ sym (block_at bs i n j j<n))
