-- `commands::configure::configure_endpoint` meets its contract. Assumes nothing.
use native.Mathlib.Omega.{arith}
use Rattle.commands.proofs.OutcomeLaws.{opened_slot, opened_rooms, settled_based}
use Rattle.commands.proofs.ConfigureLaws.{spaces_kept, walk_carried, planned, configure_refused, configured}
use Rattle.commands.proofs.configure.configure_endpoint.Goals as goal

pub plan_of-requires : goal.plan_of-requires
plan_of-requires c = λ h. (settled_based c.requires h).room

pub returns-in-Err : goal.returns-in-Err
returns-in-Err c = rw c.refuse.ensures (configure_refused c.requires c.args.pointer _ _ c.plan_of.ensures c.in-Err.is)

pub returns : goal.returns
returns c = configured c.requires c.args.pointer _ _ c.plan_of.ensures c.in-Ok.is
    (walk_carried c.terminate_flagged-ended.ensures c.args.slot _ c.add_flagged-added.ensures c.finish.ensures)

pub terminate_flagged-ended-requires : goal.terminate_flagged-ended-requires
terminate_flagged-ended-requires c = let on = opened_slot c.requires in
    record { le_id = (on.low, on.high); rooms = opened_rooms c.requires 2 (omega arith) }

pub add_flagged-added-requires : goal.add_flagged-added-requires
add_flagged-added-requires c = let on = opened_slot c.requires in
    record { le_id = (on.low, on.high); spaces = spaces_kept c.terminate_flagged-ended.ensures c.args.pointer _ (planned c.requires c.args.pointer _ _ c.plan_of.ensures c.in-Ok.is).spaces }

pub finish-requires : goal.finish-requires
finish-requires c = let on = opened_slot c.requires in
    let room = (planned c.requires c.args.pointer _ _ c.plan_of.ensures c.in-Ok.is).room in
    record {
      based = record { low = on.low; high = on.high; room = omega (arith, c.add_flagged-added.auto.mem, c.terminate_flagged-ended.auto.mem, room) };
      stored_bound = omega (arith, c.terminate_flagged-ended.ensures.few, c.add_flagged-added.ensures.few);
    }
