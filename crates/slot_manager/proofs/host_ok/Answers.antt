-- `slot_manager::host_ok` meets its contract. Assumes nothing.
use Rattle.definition.specs.Calls.{meaning, prog}
use Rattle.slot_manager.proofs.host_ok.Goals as goal

pub returns : goal.returns
unfolding meaning prog
returns c = c.reach.ensures
