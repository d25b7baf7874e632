-- `slot_manager::set_limit` meets its contract. Assumes nothing.
use Rattle.definition.specs.Commands as commands
use Rattle.definition.specs.Calls.{meaning, prog}
use Rattle.scan.proofs.OpeningLaws.{refuses_malformed}
use Rattle.slot_manager.proofs.set_limit.Goals as goal

pub returns-then-not-well_formed : goal.returns-then-not-well_formed
unfolding prog meaning commands.set_limit
returns-then-not-well_formed c = λ m. rw c.refuse.ensures (refuses_malformed c.args.t c.well_formed-2.ensures _ m c.if-not-well_formed.true)
