-- The codes of what a run refuses.
-- Assumes nothing.
use Rattle.std.specs.Prelude.{ℕ}
use Rattle.definition.specs.Refusals.{code_of}
use Rattle.session.specs.declared.Refused.{Refused}
use Rattle.session.specs.declared.Refused.TheVariants.{Call, NoRoom}

abbrev pub number_of : Refused → ℕ
number_of (Call refusal) = code_of refusal
number_of NoRoom = 200
