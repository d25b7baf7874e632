-- `player::put_number` meets its contract. Assumes nothing.
use Rattle.std.proofs.Common.{rules}
use Rattle.player.proofs.LineLaws.{puts_number}
use Rattle.player.proofs.put_number.Goals as goal

pub returns : goal.returns
returns c =
    puts_number _ _ _ _ c.ranges.n.fits c.requires c.decimal-count.ensures.len (search rules) (cc)
