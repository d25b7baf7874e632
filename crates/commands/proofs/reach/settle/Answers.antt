-- `commands::reach::settle` meets its contract. Assumes nothing.
use mathlib.Core.Path.{sym, ◌∙◌}
use Rattle.commands.proofs.ReachLaws.{settled_disabled, settled_stepped}
use Rattle.commands.proofs.reach.settle.Goals as goal

pub returns-then-is_disabled : goal.returns-then-is_disabled
returns-then-is_disabled c = let a = c.args in
    settled_disabled a.slot a.i a.input (sym c.is_disabled.ensures ∙ c.if-is_disabled.true)

pub returns : goal.returns
returns c = let a = c.args in
    let d = sym c.is_disabled.ensures ∙ c.if-is_disabled.false in
    settled_stepped a.slot a.i a.input d c.step.result (rw (c.index-at.ensures, c.plus.ensures) at c.step.ensures)
