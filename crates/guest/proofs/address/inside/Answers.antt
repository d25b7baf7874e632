-- `guest::address::inside` meets its contract. Assumes nothing.
use Rattle.std.proofs.Common.{arith}
use Rattle.guest.specs.Bytes.{inside}
use Rattle.guest.proofs.address.inside.Goals as goal

pub returns-then-count-length : goal.returns-then-count-length
unfolding inside
returns-then-count-length c = grind (arith)

pub returns-else-count-length : goal.returns-else-count-length
unfolding inside
returns-else-count-length c = grind (arith)
