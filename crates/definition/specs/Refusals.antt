-- The refusals' codes, as the scope numbers them.
-- Assumes nothing.
use Rattle.std.specs.Prelude as std
use Rattle.std.specs.Prelude.{ℕ, Ok, Err}
use Rattle.guest.specs.Prog.{Result, ok, refuse}
use Rattle.definition.specs.declared.Refusal.{Refusal}
use Rattle.definition.specs.declared.Refusal.TheVariants.{NoFreeSlot, NoSlot, NoEndpoint, EndpointType, State, Outside, OtherMemory, Unaligned, Stray, TooLarge, Malformed}

abbrev pub code_of : Refusal → ℕ
code_of NoFreeSlot = 9
code_of NoSlot = 11
code_of NoEndpoint = 12
code_of EndpointType = 17
code_of State = 19
code_of Outside = 193
code_of OtherMemory = 194
code_of Unaligned = 195
code_of Stray = 196
code_of TooLarge = 197
code_of Malformed = 198

-- what code answers, as a program gives it
abbrev pub told_as : {A : Type 0} → std.Result A Refusal → Result A
told_as (Ok x) = ok x
told_as (Err e) = refuse (code_of e)
