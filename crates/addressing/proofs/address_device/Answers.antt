-- `addressing::address_device` meets its contract. Assumes nothing.
use mathlib.Core.Path.{refl}
use native.Mathlib.Omega.{arith}
use Rattle.commands.proofs.OutcomeLaws.{opened_slot}
use Rattle.addressing.proofs.AddressLaws.{default_fits, device_answers}
use Rattle.addressing.proofs.address_device.Goals as goal

pub overflow_sub-k : goal.overflow_sub-k
overflow_sub-k c = let on = opened_slot c.requires in
    omega (arith, on.low, on.high)

pub overflow_mul-k : goal.overflow_mul-k
overflow_mul-k c = let on = opened_slot c.requires in
    omega (arith, on.low, on.high)

pub offset_bounds-t-k : goal.offset_bounds-t-k
offset_bounds-t-k c = let on = opened_slot c.requires in
    omega (arith, on.low, on.high)

pub bounds-t-k : goal.bounds-t-k
bounds-t-k c = let on = opened_slot c.requires in
    omega (arith, on.low, on.high)

pub attempt-requires : goal.attempt-requires
attempt-requires c = default_fits c.requires refl

pub returns-in-Err : goal.returns-in-Err
returns-in-Err c = rw c.refuse.ensures (device_answers c.requires refl _ _ c.attempt.result c.attempt.ensures c.in-Err.is)

pub applied-requires : goal.applied-requires
applied-requires c = let on = opened_slot c.requires in
    (on.low, on.high)

pub returns-in-Ok : goal.returns-in-Ok
returns-in-Ok c = rw c.applied.ensures (device_answers c.requires refl _ _ c.attempt.result c.attempt.ensures c.in-Ok.is)
