-- Laws of numbers as bytes.
-- Assumes nothing.
use Rattle.std.proofs.Common.{◌≡◌, ℕ, zero, suc, ◌+◌, ◌*◌, ◌/◌, ◌%◌, ◌^◌, ◌<◌, ◌≤◌, List, [], ◌∷◌, ◌++◌, length, get_or, take, sym, refl, ap, ◌∙◌, add-zero, mul_assoc, mul_comm, suc-add, pow-suc, mul-zero, zero-add, div-one, arith, lit<, drop-cons, take_all}
use native.Mathlib.Nat.{mod-one, div-div-eq-div-mul}
use lib.Arith.{mod-mul}
use Rattle.std.specs.Int.{from_le_bytes, to_le_bytes}
use Rattle.std.proofs.Common.{w32, w64}
use Rattle.guest.specs.Bytes.{number, bytes}
use Rattle.guest.specs.Prog.{Mem, block, splice}
use Rattle.guest.proofs.SpliceLaws.{block_length}

pub bytes_length : (n x : ℕ) → length (bytes n x) ≡ n
unfolding bytes
bytes_length zero x = refl
bytes_length (suc n) x = ap suc (bytes_length n (x / 256))

pow256_pos : (n : ℕ) → 0 < 256 ^ n
pow256_pos zero = lit< tt
pow256_pos (suc n) = rw (pow-suc 256 n) (omega (arith, pow256_pos n))

-- the number of a number's bytes
pub number_bytes : (n x : ℕ) → number (bytes n x) ≡ x % 256 ^ n
unfolding number bytes
number_bytes zero x = sym (mod-one x)
number_bytes (suc n) x = rw (number_bytes n (x / 256), pow-suc 256 n, mod-mul x (pow256_pos n) (lit< {m = 0} {n = 256} tt)) (omega arith)

-- each number of a list is a byte
pub data Bytes : List ℕ → Type 0 where
  none : Bytes []
  more : {b : ℕ} {bs : List ℕ} → b < 256 → Bytes bs → Bytes (b ∷ bs)

-- the bytes of the number of bytes
pub bytes_number : {bs : List ℕ} → Bytes bs → bytes (length bs) (number bs) ≡ bs
unfolding number bytes
bytes_number none = refl
bytes_number (more {b} {bs} h r) =
    let l : (b + 256 * number bs) % 256 ≡ b = omega arith in
    let u : (b + 256 * number bs) / 256 ≡ number bs = omega arith in
    rw (l, u, bytes_number r)

pub number_append : (a b : List ℕ) → number (a ++ b) ≡ number a + 256 ^ length a * number b
unfolding number
number_append [] b = omega arith
number_append (x ∷ a) b = rw (number_append a b, pow-suc 256 (length a), mul_comm (256 ^ length a) 256, mul_assoc) (omega arith)

pub bytes_append : (n m x : ℕ) → bytes (n + m) x ≡ bytes n x ++ bytes m (x / 256 ^ n)
unfolding bytes
bytes_append zero m x = rw (zero-add m, div-one x)
bytes_append (suc n) m x = rw (suc-add n m, pow-suc 256 n, mul_comm (256 ^ n) 256, ← div-div-eq-div-mul x 256 (256 ^ n), bytes_append n m (x / 256))

-- only the low bytes count
pub bytes_low : (n x : ℕ) → bytes n (x % 256 ^ n) ≡ bytes n x
unfolding bytes
bytes_low zero x = refl
bytes_low (suc n) x =
    let e : x % 256 ^ suc n ≡ (x / 256 % 256 ^ n) * 256 + x % 256 = rw (pow-suc 256 n) (mod-mul x (pow256_pos n) (lit< {m = 0} {n = 256} tt)) in
    let l : (x % 256 ^ suc n) % 256 ≡ x % 256 = omega arith in
    let u : (x % 256 ^ suc n) / 256 ≡ x / 256 % 256 ^ n = omega arith in
    rw (l, u, bytes_low n (x / 256))

-- ---- as the code reads and stores them

-- a block, its first byte apart
pub number_first : (n : ℕ) (l : List ℕ) (i : ℕ) → i < length l → number (block l i (suc n)) ≡ get_or l i 0 + 256 * number (block l (suc i) n)
unfolding number
number_first n l i h = rw (drop-cons l i 0)

pub number_one : (m : Mem) (a : ℕ) → a < length m → get_or m a 0 ≡ number (block m a 1)
unfolding number
number_one m a h = rw (number_first 0 m a h, mul-zero, add-zero)

pub number_four : (l : List ℕ) → 4 ≤ length l → number (take 4 l) ≡ get_or l 0 0 + 256 * get_or l 1 0 + 65536 * get_or l 2 0 + 16777216 * get_or l 3 0
unfolding number
number_four l h =
    omega (arith, number_first 3 l 0 (omega arith), number_first 2 l 1 (omega arith), number_first 1 l 2 (omega arith), number_first 0 l 3 (omega arith))

-- a store right behind another is one store
pub splice_join : (m : Mem) (a : ℕ) (bs cs : List ℕ) → splice (splice m a bs) (a + length bs) cs ≡ splice m a (bs ++ cs)
unfolding splice
splice_join [] a bs cs = refl
splice_join (x ∷ m) (suc a) bs cs = rw (suc-add a (length bs), splice_join m a bs cs)
splice_join (x ∷ m) zero [] cs = refl
splice_join (x ∷ m) zero (b ∷ bs) cs = rw (zero-add (suc (length bs))) (ap (λ (l : Mem). b ∷ l) (ap (λ (k : ℕ). splice (splice m zero bs) k cs) (sym (zero-add (length bs))) ∙ splice_join m zero bs cs))

-- ---- as the library reads and writes words

pub number_four_at : (m : Mem) (a : ℕ) → a + 4 ≤ length m → from_le_bytes w32 (block m a 4) ≡ number (block m a 4)
number_four_at m a h =
    let n : length (block m a 4) ≡ 4 = block_length m a 4 h in
    let e : take 4 (block m a 4) ≡ block m a 4 = take_all 4 (block m a 4) (omega (arith, n)) in
    omega (arith, rw e at (number_four (block m a 4) (omega (arith, n))))

number_eight_of : (l : List ℕ) → 8 ≤ length l → from_le_bytes w64 l ≡ number (take 8 l)
unfolding number
number_eight_of l h =
    omega (
      arith,
      number_first 7 l 0 (omega arith),
      number_first 6 l 1 (omega arith),
      number_first 5 l 2 (omega arith),
      number_first 4 l 3 (omega arith),
      number_first 3 l 4 (omega arith),
      number_first 2 l 5 (omega arith),
      number_first 1 l 6 (omega arith),
      number_first 0 l 7 (omega arith),
    )

pub number_eight_at : (m : Mem) (a : ℕ) → a + 8 ≤ length m → from_le_bytes w64 (block m a 8) ≡ number (block m a 8)
number_eight_at m a h =
    let n : length (block m a 8) ≡ 8 = block_length m a 8 h in
    let e : take 8 (block m a 8) ≡ block m a 8 = take_all 8 (block m a 8) (omega (arith, n)) in
    rw e at (number_eight_of (block m a 8) (omega (arith, n)))

-- the four bytes of a number of 32 bits, each by its own division
pub bytes_four : (x : ℕ) → x < 2 ^ 32 → bytes 4 x ≡ x % 256 ∷ x / 256 % 256 ∷ x / 65536 % 256 ∷ x / 16777216 ∷ []
unfolding bytes
bytes_four x h =
    let a : x / 65536 ≡ x / 256 / 256 = omega arith in
    let b : x / 16777216 ≡ x / 256 / 256 / 256 % 256 = omega arith in
    rw (a, b) refl

-- the bytes of a number of 64 bits
pub bytes_eight : (x : ℕ) → to_le_bytes w64 x ≡ bytes 8 x
unfolding bytes
bytes_eight x =
    let a : x / 65536 ≡ x / 256 / 256 = omega arith in
    let b : x / 16777216 ≡ x / 256 / 256 / 256 = omega arith in
    let c : x / 4294967296 ≡ x / 256 / 256 / 256 / 256 = omega arith in
    let d : x / 1099511627776 ≡ x / 256 / 256 / 256 / 256 / 256 = omega arith in
    let e : x / 281474976710656 ≡ x / 256 / 256 / 256 / 256 / 256 / 256 = omega arith in
    let f : x / 72057594037927936 ≡ x / 256 / 256 / 256 / 256 / 256 / 256 / 256 = omega arith in
    rw (a, b, c, d, e, f) refl
