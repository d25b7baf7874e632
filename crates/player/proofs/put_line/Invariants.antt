-- `player::put_line`: its loop. Assumes nothing.
use Prim.Native.Nat.{◌+◌}
use Rattle.player.proofs.LineLaws.{Lining}
use Rattle.player.proofs.put_line.Given as goal

-- against the part as it was passed: the first number stands before the loop
abbrev pub invariant-loop-n : goal.invariant-loop-n
invariant-loop-n l = Lining l.numbers l.fn.part l.end (l.n-index + 1) l.part
