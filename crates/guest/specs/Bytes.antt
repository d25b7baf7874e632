-- Bytes, addresses and bits, in plain arithmetic.
-- Assumes nothing.
use Rattle.std.specs.Prelude.{Option, Some, None, ℕ, zero, suc, ◌+◌, ◌-◌, ◌*◌, ◌/◌, ◌%◌, ◌^◌, Bool, cond, List, [], ◌∷◌, ◌==◌, nat_le}

-- the number that bytes stand for, the low byte first
unfoldable pub number : List ℕ → ℕ
number [] = 0
number (b ∷ bs) = b + 256 * number bs

-- the n low bytes of a number, the lowest first
unfoldable pub bytes : ℕ → ℕ → List ℕ
bytes zero x = []
bytes (suc n) x = x % 256 ∷ bytes n (x / 256)

-- an address and an offset: the sum wraps at 64 bits
infixl 65 ◌⊕◌
abbrev pub ◌⊕◌ : ℕ → ℕ → ℕ
a ⊕ b = (a + b) % 2 ^ 64

-- the n bytes at a lie wholly in a memory of len bytes
unfoldable pub inside : ℕ → ℕ → ℕ → Bool
inside len a n = nat_le (a + n) len

-- where the n bytes at an address stand in the lent memory of len bytes, if they lie in it
abbrev pub located : ℕ → ℕ → ℕ → Option ℕ
located len a n = cond (inside len a n) (Some a) None

-- bit i of x is set
abbrev pub bit : ℕ → ℕ → Bool
bit x i = x / 2 ^ i % 2 == 1

-- n numbers from i on: i, i + 1, ..
unfoldable pub count : ℕ → ℕ → List ℕ
count zero i = []
count (suc n) i = i ∷ count n (i + 1)

-- the numbers of a list that pass a test, in order
unfoldable pub those : (ℕ → Bool) → List ℕ → List ℕ
those f [] = []
those f (i ∷ is) = cond (f i) (i ∷ those f is) (those f is)

-- the set bits of x among the n from bit i on, ascending
abbrev pub set_bits : ℕ → ℕ → ℕ → List ℕ
set_bits n i x = those (bit x) (count n i)

-- the pointer of a dequeue word: its low four bits cleared
abbrev pub pointer_of : ℕ → ℕ
pointer_of w = w - w % 16

-- the cycle of a dequeue word: bit 0
abbrev pub cycle_of : ℕ → Bool
cycle_of w = w % 2 == 1

-- the endpoint type: bits 3 to 5 of its byte
abbrev pub type_of : ℕ → ℕ
type_of b = b / 8 % 8

-- a slot state as its byte has it: shifted left by 3
abbrev pub slot_state_byte : ℕ → ℕ
slot_state_byte s = s * 8
