-- `slot_manager::host_trb_error` meets its contract. Assumes nothing.
use Rattle.definition.specs.Calls.{meaning, prog}
use Rattle.slot_manager.proofs.host_trb_error.Goals as goal

pub returns : goal.returns
unfolding meaning prog
returns c = c.reach.ensures
