-- `player::replay`: its loop. Assumes nothing.
use Rattle.formed.specs.Promises.{Ready}
use Rattle.player.proofs.replay.Given as goal

abbrev pub invariant-loop : goal.invariant-loop
invariant-loop g l = Ready l.t l.mem
