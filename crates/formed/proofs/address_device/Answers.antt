-- `formed::address_device` meets its contract. Assumes nothing.
use Rattle.definition.specs.Calls.{prog}
use Rattle.formed.proofs.CallLaws.{addresses, ready_refused}
use Rattle.formed.proofs.address_device.Goals as goal

pub returns-in_default : goal.returns-in_default
unfolding prog
returns-in_default c = rw c.refuse.ensures (ready_refused (addresses _ _ _) c.requires c.lookup.ensures c.in_default.is)
