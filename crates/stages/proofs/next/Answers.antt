-- `stages::next` meets its contract. Assumes nothing.
use Rattle.formed.proofs.CallLaws.{ready_checked}
use Rattle.stages.proofs.next.Goals as goal

pub address_device-requires : goal.address_device-requires
address_device-requires c = ready_checked c.checks.ensures c.in_default.is

pub configure_endpoint-requires : goal.configure_endpoint-requires
configure_endpoint-requires c = ready_checked c.checks.ensures c.in_default.is

pub stop_endpoint-requires : goal.stop_endpoint-requires
stop_endpoint-requires c = ready_checked c.checks.ensures c.in_default.is

pub reset_device-requires : goal.reset_device-requires
reset_device-requires c = ready_checked c.checks.ensures c.in_default.is

pub enable_slot-requires : goal.enable_slot-requires
enable_slot-requires c = (ready_checked {m = c.args.mem.now} c.checks.ensures c.in_default.is).formed
