-- `formed::configure_endpoint` meets its contract. Assumes nothing.
use Rattle.definition.specs.Calls.{prog}
use Rattle.formed.proofs.CallLaws.{configures, ready_refused}
use Rattle.formed.proofs.configure_endpoint.Goals as goal

pub returns-in_default : goal.returns-in_default
unfolding prog
returns-in_default c = rw c.refuse.ensures (ready_refused (configures _ _ _) c.requires c.lookup.ensures c.in_default.is)
