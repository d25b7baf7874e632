-- `commands::device::reset_device` meets its contract. Assumes nothing.
use mathlib.Core.Path.{sym, ◌∙◌}
use native.Mathlib.Omega.{arith}
use Rattle.definition.specs.Calls.{prog, meaning}
use Rattle.definition.specs.Commands as commands
use Rattle.scan.proofs.OpeningLaws.{refuses_at_once, meets_as}
use Rattle.commands.proofs.OutcomeLaws.{opened_rooms, settled_based, settled_yes, settled_no, carried, opened_settles}
use Rattle.commands.proofs.device.reset_device.Goals as goal

pub returns-then-not-settled : goal.returns-then-not-settled
unfolding prog meaning commands.reset_device
returns-then-not-settled c = let a = c.args in
    let no = sym c.is_settled-settled.ensures ∙ c.if-not-settled.true in
    rw c.refuse.ensures (opened_settles 11 a.t a.id _ c.requires (refuses_at_once a.t a.mem.now (settled_no a.slot.state _ no)))

pub returns : goal.returns
unfolding prog meaning commands.reset_device
returns c = let a = c.args in
    let yes = sym c.is_settled-settled.ensures ∙ c.if-not-settled.false in
    opened_settles 11 a.t a.id _ c.requires (meets_as a.t (settled_yes a.slot.state _ yes) (carried a.t c.deconfigure.ensures))

pub deconfigure-requires : goal.deconfigure-requires
deconfigure-requires c = let o = c.requires in
    let yes = sym c.is_settled-settled.ensures ∙ c.if-not-settled.false in
    record { based = settled_based o yes; rooms = opened_rooms o 2 (omega arith) }
