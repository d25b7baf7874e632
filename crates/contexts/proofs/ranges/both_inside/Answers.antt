-- `contexts::ranges::both_inside` meets its contract. Assumes nothing.
use Rattle.contexts.specs.Ranges.{both_inside}
use Rattle.contexts.proofs.ranges.both_inside.Goals as goal

pub returns-then-inside : goal.returns-then-inside
unfolding both_inside
returns-then-inside c = rw (← c.plus-input.ensures, ← c.plus-device.ensures, ← c.inside.ensures, c.if-inside.true) c.inside-then-inside.ensures

pub returns-else-inside : goal.returns-else-inside
unfolding both_inside
returns-else-inside c = rw (← c.plus-input.ensures, ← c.inside.ensures, c.if-inside.false)
