-- `commands::configure::plan_of` meets its contract. Assumes nothing.
use mathlib.Core.Path.{sym, ◌∙◌}
use Rattle.commands.proofs.ConfigureLaws.{plan_unsettled, plan_drops}
use Rattle.commands.proofs.configure.plan_of.Goals as goal

pub returns-then-not-is_settled : goal.returns-then-not-is_settled
returns-then-not-is_settled c = let a = c.args in
    plan_unsettled a.pointer a.slot a.mem.now a.dc (sym c.is_settled.ensures ∙ c.if-not-is_settled.true)

pub returns-then-dc : goal.returns-then-dc
returns-then-dc c = let on = sym c.is_settled.ensures ∙ c.if-not-is_settled.false in
    rw c.if-dc.true (plan_drops _ _ _ on (c.requires on))
