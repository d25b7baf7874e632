-- `slot_manager::set_dequeue` meets its contract. Assumes nothing.
use Rattle.definition.specs.Calls.{meaning, prog}
use Rattle.slot_manager.proofs.set_dequeue.Goals as goal

pub returns : goal.returns
unfolding meaning prog
returns c = c.reach.ensures
