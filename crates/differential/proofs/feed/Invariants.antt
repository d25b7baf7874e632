-- `differential::feed`: its loop. Assumes nothing.
use lib.ListN.{length}
use Rattle.differential.proofs.feed.Given as goal

abbrev pub decreases-loop-left : goal.decreases-loop-left
decreases-loop-left g l = length l.rest
