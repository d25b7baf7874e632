-- `slot_manager::configure_endpoint` meets its contract. Assumes nothing.
use Rattle.definition.specs.Calls.{prog}
use Rattle.formed.proofs.CallLaws.{configures, head_refused, absent_refused, head_opens}
use Rattle.slot_manager.proofs.configure_endpoint.Goals as goal

pub returns-in-Err : goal.returns-in-Err
unfolding prog
returns-in-Err c = rw c.refuse.ensures (head_refused (configures _ _ _) 0 c.opens.ensures c.in-Err.is)

pub returns-in_default : goal.returns-in_default
unfolding prog
returns-in_default c = rw c.refuse-in_default.ensures (absent_refused (configures _ _ _) 0 c.opens.ensures c.in-Ok.is c.in_default.is)

pub configure_endpoint-requires : goal.configure_endpoint-requires
configure_endpoint-requires c = head_opens 0 c.opens.ensures c.in-Ok.is c.in-Some.is
