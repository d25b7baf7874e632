-- What can be seen of a program's form, whatever the memory holds.
-- Assumes nothing.
use Rattle.std.specs.Prelude.{ℕ, List}
use Rattle.guest.specs.Prog.{Prog, done, get, put, Result, ok, refuse}

-- no path stores
unfoldable pub Quiet : {A : Type 0} → Prog A → Type 0
Quiet (done x) = Unit {0}
Quiet (get a n k) = (bs : List ℕ) → Quiet (k bs)
Quiet (put a bs p) = ⊥

-- no path reads
unfoldable pub Blind : {A : Type 0} → Prog A → Type 0
Blind (done x) = Unit {0}
Blind (get a n k) = ⊥
Blind (put a bs p) = Blind p

-- no path ends in a refusal
unfoldable pub Firm : {A : Type 0} → Prog (Result A) → Type 0
Firm (done (ok x)) = Unit {0}
Firm (done (refuse c)) = ⊥
Firm (get a n k) = (bs : List ℕ) → Firm (k bs)
Firm (put a bs p) = Firm p

-- no path stores and then ends in a refusal
unfoldable pub Clean : {A : Type 0} → Prog (Result A) → Type 0
Clean (done r) = Unit {0}
Clean (get a n k) = (bs : List ℕ) → Clean (k bs)
Clean (put a bs p) = Firm p

-- every path ends in a value of which P holds
unfoldable pub Gives : {A : Type 0} → (A → Type 0) → Prog A → Type 0
Gives P (done x) = P x
Gives P (get a n k) = (bs : List ℕ) → Gives P (k bs)
Gives P (put a bs p) = Gives P p
