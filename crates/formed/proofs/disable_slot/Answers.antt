-- `formed::disable_slot` meets its contract. Assumes nothing.
use Rattle.definition.specs.Calls.{prog}
use Rattle.formed.proofs.CallLaws.{disables, ready_refused}
use Rattle.formed.proofs.disable_slot.Goals as goal

pub returns-in_default : goal.returns-in_default
unfolding prog
returns-in_default c = rw c.refuse.ensures (ready_refused (disables _) c.requires c.lookup.ensures c.in_default.is)
