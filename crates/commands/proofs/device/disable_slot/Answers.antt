-- `commands::device::disable_slot` meets its contract. Assumes nothing.
use native.Mathlib.Omega.{arith}
use borrow.Author.Rules.{rules}
use Rattle.definition.specs.Table.{with_slot}
use Rattle.definition.specs.Calls.{prog, meaning}
use Rattle.definition.specs.Commands as commands
use Rattle.commands.proofs.OutcomeLaws.{opened_slot, opened_rooms, carried, opened_settles, disabled_slot}
use Rattle.commands.proofs.device.disable_slot.Goals as goal

pub overflow_sub-j : goal.overflow_sub-j
overflow_sub-j c = let f = opened_slot c.requires in search rules

pub offset_bounds-table-j : goal.offset_bounds-table-j
offset_bounds-table-j c = let f = opened_slot c.requires in search rules

pub bounds-table-j : goal.bounds-table-j
bounds-table-j c = let f = opened_slot c.requires in search rules

pub returns : goal.returns
unfolding with_slot prog meaning commands.disable_slot
returns c = let a = c.args in
    rw c.success.ensures
    (opened_settles 11 a.t a.id _ c.requires (carried a.t (disabled_slot a.t a.id a.slot (opened_slot c.requires).slot c.terminate_from-ended.ensures)))

pub terminate_from-ended-requires : goal.terminate_from-ended-requires
terminate_from-ended-requires c = let o = c.requires in
    let f = opened_slot o in
    record { le_id = (f.low, f.high, omega arith, omega arith); rooms = opened_rooms o 1 (omega arith) }
