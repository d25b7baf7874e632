-- `registers::enable_slot` meets its contract. Assumes nothing.
use native.Mathlib.Omega.{arith}
use mathlib.Core.Path.{sym, ◌∙◌}
use Rattle.definition.specs.Table.{with_slot}
use Rattle.definition.proofs.FormedFacts.{formed_limit}
use Rattle.registers.proofs.RegisterLaws.{enabled, none_free}
use Rattle.registers.proofs.enable_slot.Goals as goal

pub first_free-requires : goal.first_free-requires
first_free-requires c = omega (arith, formed_limit c.args.t c.requires)

pub returns-in_default : goal.returns-in_default
returns-in_default c = rw c.refuse.ensures (none_free c.args.t c.requires (sym c.in_default.is ∙ c.first_free.ensures.first))

pub returns : goal.returns
unfolding with_slot
returns c = rw (c.plus-entry.ensures, c.answer.ensures) (enabled c.args.t c.requires _ c.in-Some.ensures.first)
