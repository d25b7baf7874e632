-- `slot_manager::stop_endpoint` meets its contract. Assumes nothing.
use Rattle.definition.specs.Calls.{meaning, prog}
use Rattle.slot_manager.proofs.stop_endpoint.Goals as goal

pub returns : goal.returns
unfolding meaning prog
returns c = c.reach.ensures
