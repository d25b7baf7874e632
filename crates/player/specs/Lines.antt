-- An answer as a line of text: "eight decimals with single spaces".
-- Assumes nothing.
use Rattle.std.specs.Prelude.{◌≡◌, List, [], ◌∷◌, ◌++◌, ℕ, ◌+◌, ◌≤◌, length, take}
use Rattle.guest.specs.Prog.{splice}
use Rattle.io.specs.Digits.{last_digits, IsDigitCount}

-- ds are the decimal digits of n, and no more than it takes
pub record Decimal (n : ℕ) (ds : List ℕ) : Type 0 where
  pub count : ℕ
  pub fewest : IsDigitCount 10 1 n count
  pub spelt : ds ≡ last_digits 10 count n

-- numbers in decimal, with a space between each two
pub data Spaced : List ℕ → List ℕ → Type 0 where
  one : {n : ℕ} {ds : List ℕ} → Decimal n ds → Spaced (n ∷ []) ds
  more : {ns bs : List ℕ} {n : ℕ} {ds : List ℕ} → Spaced ns bs → Decimal n ds → Spaced (ns ++ (n ∷ [])) (bs ++ (32 ∷ ds))

-- the number n was put at the start of l, in r bytes
pub record PutsNumber (n : ℕ) (l : List ℕ) (r : ℕ) (l' : List ℕ) : Type 0 where
  pub few : r ≤ 20
  pub bytes : List ℕ
  pub decimal : Decimal n bytes
  pub count : r ≡ length bytes
  pub text : l' ≡ splice l 0 bytes

-- the line of eight numbers, which ends in a newline, was put at the start of l, in r bytes
pub record PutsLine (ns l : List ℕ) (r : ℕ) (l' : List ℕ) : Type 0 where
  pub few : r ≤ 168
  pub bytes : List ℕ
  pub spaced : Spaced (take 8 ns) bytes
  pub count : r ≡ length bytes + 1
  pub text : l' ≡ splice l 0 (bytes ++ (10 ∷ []))
