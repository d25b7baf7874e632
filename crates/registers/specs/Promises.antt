-- What the calls that are lent no memory promise.
-- Assumes nothing.
use Rattle.std.specs.Prelude.{List, [], ◌∷◌, ℕ, ◌-◌, length, get_or, Option, Some, None}
use Rattle.guest.specs.Bytes.{count, those}
use Rattle.guest.specs.Prog.{Mem}
use Rattle.definition.specs.declared.Slot.{Slot}
use Rattle.definition.specs.declared.Table.{Table}
use Rattle.definition.specs.declared.Outcome.{Outcome}
use Rattle.definition.specs.Table.{is_free, free}
use Rattle.definition.specs.Calls.{Call, prog, Meets}

-- the call was answered, whatever the memory, which it leaves as it is
abbrev pub AnswersAlone : Call → Table → Outcome → Type 0
AnswersAlone c t r = (m : Mem) → Meets (prog c (length m) t) m r m

-- the first number of a list
abbrev pub first_of : List ℕ → Option ℕ
first_of [] = None
first_of (id ∷ ids) = Some id

-- the smallest free id from 1 to the limit
unfoldable pub first_free : List Slot → ℕ → Option ℕ
first_free slots limit = first_of (those (λ id. is_free (get_or slots (id - 1) free)) (count limit 1))
