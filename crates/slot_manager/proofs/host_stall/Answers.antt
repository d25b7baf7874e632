-- `slot_manager::host_stall` meets its contract. Assumes nothing.
use Rattle.definition.specs.Calls.{meaning, prog}
use Rattle.slot_manager.proofs.host_stall.Goals as goal

pub returns : goal.returns
unfolding meaning prog
returns c = c.reach.ensures
