-- `scan::records::in_use` meets its contract. Assumes nothing.
use mathlib.Core.Path.{◌≡◌, sym, ◌∙◌}
use mathlib.Core.Bool.{true, false}
use Rattle.definition.specs.Table.{is_disabled}
use Rattle.scan.specs.Records.{in_use}
use Rattle.scan.proofs.records.in_use.Goals as goal

pub returns-then-not-is_disabled : goal.returns-then-not-is_disabled
unfolding in_use
returns-then-not-is_disabled c =
    let on : is_disabled c.args.first ≡ false = sym c.is_disabled.ensures ∙ c.if-not-is_disabled.true in simp on c.inside.ensures

pub returns-else-not-is_disabled : goal.returns-else-not-is_disabled
unfolding in_use
returns-else-not-is_disabled c =
    let off : is_disabled c.args.first ≡ true = sym c.is_disabled.ensures ∙ c.if-not-is_disabled.false in simp (c.if-not-is_disabled.false, off)
