-- `slot_manager::reach` meets its contract. Assumes nothing.
use Rattle.definition.specs.Refusals.{code_of}
use Rattle.scan.proofs.OpeningLaws.{head_record}
use Rattle.commands.proofs.ReachLaws.{settle_ready, reach_absent, reach_refuses, reach_applies, reach_found}
use Rattle.commands.proofs.OutcomeLaws.{opened_slot}
use Rattle.formed.proofs.CallLaws.{reaches, head_refused, absent_refused, head_opens, reached}
use Rattle.slot_manager.proofs.reach.Goals as goal

pub returns-in-Err : goal.returns-in-Err
returns-in-Err c = let a = c.args in
    rw c.refuse.ensures (head_refused (reaches (code_of a.slotless) (code_of a.absent) a.id a.i a.input) a.i c.opens.ensures c.in-Err.is)

pub returns-in_default : goal.returns-in_default
returns-in_default c = let a = c.args in
    rw c.refuse-in_default.ensures
    (absent_refused (reaches (code_of a.slotless) (code_of a.absent) a.id a.i a.input) a.i c.opens.ensures c.in-Ok.is c.in_default.is)

pub settle-requires : goal.settle-requires
settle-requires c = let a = c.args in
    let o = opened_slot (head_opens {m = a.mem.now} a.i c.opens.ensures c.in-Ok.is c.in-Some.is) in
    settle_ready a.t a.id a.i _ a.mem.now o.formed o.size o.low o.high o.slot
    (head_record a.t _ a.id a.i c.opens.ensures c.in-Ok.is c.in-Some.is)

pub returns-in_default-settle : goal.returns-in_default-settle
returns-in_default-settle c = let a = c.args in
    rw c.refuse-in_default-settle.ensures
    (reached (code_of a.slotless) (code_of a.absent) a.i a.input (head_opens a.i c.opens.ensures c.in-Ok.is c.in-Some.is)
    (reach_absent c.settle.ensures (code_of a.absent) a.id a.t (head_record a.t _ a.id a.i c.opens.ensures c.in-Ok.is c.in-Some.is) c.in_default-settle.is))

pub returns-in-Err-step : goal.returns-in-Err-step
returns-in-Err-step c = let a = c.args in
    rw c.refuse-in-Err-step.ensures
    (reached (code_of a.slotless) (code_of a.absent) a.i a.input (head_opens a.i c.opens.ensures c.in-Ok.is c.in-Some.is)
    (reach_refuses c.settle.ensures (code_of a.absent) a.id a.t (head_record a.t _ a.id a.i c.opens.ensures c.in-Ok.is c.in-Some.is) c.in-Some-settle.is c.in-Err-step.is))

pub applied-requires : goal.applied-requires
applied-requires c = let a = c.args in
    let o = opened_slot (head_opens {m = a.mem.now} a.i c.opens.ensures c.in-Ok.is c.in-Some.is) in
    let q = reach_found c.settle.ensures (code_of a.absent) a.id a.t (head_record a.t _ a.id a.i c.opens.ensures c.in-Ok.is c.in-Some.is) c.in-Some-settle.is in
    (o.low, o.high, q.0, q.1)

pub returns : goal.returns
returns c = let a = c.args in
    rw (c.applied.ensures, c.answer_of.ensures)
    (reached (code_of a.slotless) (code_of a.absent) a.i a.input (head_opens a.i c.opens.ensures c.in-Ok.is c.in-Some.is)
    (reach_applies c.settle.ensures (code_of a.absent) a.id a.t (head_record a.t _ a.id a.i c.opens.ensures c.in-Ok.is c.in-Some.is) c.in-Some-settle.is c.in-Ok-step.is))
