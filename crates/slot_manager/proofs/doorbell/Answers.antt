-- `slot_manager::doorbell` meets its contract. Assumes nothing.
use Rattle.definition.specs.Calls.{meaning, prog}
use Rattle.slot_manager.proofs.doorbell.Goals as goal

pub returns : goal.returns
unfolding meaning prog
returns c = c.reach.ensures
