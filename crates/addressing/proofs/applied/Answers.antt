-- `addressing::applied` meets its contract. Assumes nothing.
use Rattle.definition.specs.Table.{with_slot}
use Rattle.addressing.proofs.applied.Goals as goal

pub returns : goal.returns
unfolding with_slot
returns c = c.success.ensures
