-- `slot_manager::address_device` meets its contract. Assumes nothing.
use Rattle.definition.specs.Calls.{prog}
use Rattle.commands.proofs.OutcomeLaws.{opened_slot}
use Rattle.addressing.proofs.AddressLaws.{default_fits, device_answers}
use Rattle.formed.proofs.CallLaws.{addresses, head_refused, absent_refused, head_opens, head_first}
use Rattle.slot_manager.proofs.address_device.Goals as goal

pub returns-in-Err : goal.returns-in-Err
unfolding prog
returns-in-Err c = rw c.refuse.ensures (head_refused (addresses _ _ _) 1 c.opens.ensures c.in-Err.is)

pub returns-in_default : goal.returns-in_default
unfolding prog
returns-in_default c = rw c.refuse-in_default.ensures (absent_refused (addresses _ _ _) 1 c.opens.ensures c.in-Ok.is c.in_default.is)

pub attempt-requires : goal.attempt-requires
attempt-requires c = let a = c.args in
    default_fits (head_opens {m = a.mem.now} 1 c.opens.ensures c.in-Ok.is c.in-Some.is)
    (head_first a.t _ a.id c.opens.ensures c.in-Ok.is c.in-Some.is)

pub returns-in-Err-attempt : goal.returns-in-Err-attempt
returns-in-Err-attempt c = let a = c.args in
    rw c.refuse-in-Err-attempt.ensures
    (device_answers (head_opens 1 c.opens.ensures c.in-Ok.is c.in-Some.is) (head_first a.t _ a.id c.opens.ensures c.in-Ok.is c.in-Some.is) _ _
    c.attempt.result c.attempt.ensures c.in-Err-attempt.is)

pub applied-requires : goal.applied-requires
applied-requires c = let o = opened_slot (head_opens {m = c.args.mem.now} 1 c.opens.ensures c.in-Ok.is c.in-Some.is) in
    (o.low, o.high)

pub returns-in-Ok-attempt : goal.returns-in-Ok-attempt
returns-in-Ok-attempt c = let a = c.args in
    rw c.applied.ensures
    (device_answers (head_opens 1 c.opens.ensures c.in-Ok.is c.in-Some.is) (head_first a.t _ a.id c.opens.ensures c.in-Ok.is c.in-Some.is) _ _
    c.attempt.result c.attempt.ensures c.in-Ok-attempt.is)
