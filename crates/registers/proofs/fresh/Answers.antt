-- `registers::fresh` meets its contract. Assumes nothing.
use mathlib.Core.Path.{refl}
use Rattle.definition.specs.Table.{fresh_table}
use Rattle.registers.proofs.fresh.Goals as goal

pub returns : goal.returns
unfolding fresh_table
returns c = refl
