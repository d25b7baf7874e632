-- `commands::reach::applied` meets its contract. Assumes nothing.
use mathlib.Core.Path.{refl}
use Rattle.definition.specs.Table.{with_endpoint}
use Rattle.commands.proofs.reach.applied.Goals as goal

pub returns : goal.returns
unfolding with_endpoint
returns c = refl
