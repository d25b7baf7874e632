-- What was answered for a call's program was answered for the call.
-- Assumes nothing.
use mathlib.Core.Path.{◌≡◌}
use lib.ListN.{length}
use Rattle.guest.specs.Prog.{Mem, Prog, Result}
use Rattle.definition.specs.declared.Table.{Table}
use Rattle.definition.specs.declared.Outcome.{Outcome}
use Rattle.definition.specs.Commands.{Told}
use Rattle.definition.specs.Calls as calls
use Rattle.definition.specs.Calls.{meaning, prog}
use Rattle.scan.proofs.OpeningLaws.{meets_as}
use Rattle.commands.specs.Promises.{Answers, Settles}

-- its meaning is the part p, which was answered
pub answers_meaning : (c : calls.Call) (t : Table) (m : Mem) {p : Prog (Result Told)} {r : Outcome} {m' : Mem}
    → meaning c (length m) t ≡ p → Settles p t m r m' → Answers c t m r m'
unfolding prog
answers_meaning c t m e h = meets_as t e h
