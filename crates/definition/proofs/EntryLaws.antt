-- What holds of each entry of the table of steps: it answers 0 or 1, or is a refusal, and none of the table's own.
-- Assumes nothing.
use mathlib.Core.Path.{◌≡◌, refl}
use mathlib.Core.Bool.{Bool, true, ◌&&◌}
use mathlib.Core.List.{List, [], ◌∷◌}
use Prim.Native.Nat.{ℕ, zero, suc, ◌-◌, ◌≤◌, ◌<◌}
use borrow.Author.Tests.{leb-true, ltb-true}
use lib.Dec.{leb, ltb}
use lib.ListN.{get_or}
use Rattle.guest.specs.Prog.{Result, ok, refuse}
use Rattle.guest.proofs.ListLaws.{and_left, and_right}
use Rattle.definition.specs.Types.{EndpointState, Input, Row}
use Rattle.definition.specs.Table.{endpoint_number}
use Rattle.definition.specs.Steps.{wrong, steps, column, entry}

-- each element of a list passes a test
unfoldable pub every : {A : Type 0} → (A → Bool) → List A → Bool
every f [] = true
every f (x ∷ l) = f x && every f l

-- .. then so does what stands at an index, if the default does too
pub passes : {A : Type 0} (f : A → Bool) (l : List A) (k : ℕ) (d : A) → every f l ≡ true → f d ≡ true → f (get_or l k d) ≡ true
unfolding every
passes f [] k d h e = e
passes f (x ∷ l) zero d h e = and_left (f x) (every f l) h
passes f (x ∷ l) (suc k) d h e = passes f l k d (and_right (f x) (every f l) h) e

abbrev few : Result Row → Bool
few (ok r) = leb r.code 1
few (refuse c) = ltb 1 c && leb c 196

-- an entry's answer
abbrev pub Answered : Result Row → Type 0
Answered (ok r) = r.code ≤ 1
Answered (refuse c) = (1 < c) × (c ≤ 196)

pub entry_answers : (s : EndpointState) (i : Input) → Answered (entry s i)
unfolding entry every
entry_answers s i = by (entry s i) (passes few (get_or steps (endpoint_number s - 1) []) (column i) wrong (passes (every few) steps _ [] refl refl) refl)
  where
    by : (x : Result Row) → few x ≡ true → Answered x
    by (ok r) h = leb-true r.code 1 h
    by (refuse c) h = (ltb-true 1 c (and_left (ltb 1 c) (leb c 196) h), leb-true c 196 (and_right (ltb 1 c) (leb c 196) h))
