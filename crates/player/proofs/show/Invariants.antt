-- `player::show`: its loop. Assumes nothing.
use mathlib.Core.Path.{◌≡◌}
use Prim.Native.Nat.{◌≤◌}
use lib.ListN.{length}
use Rattle.player.proofs.show.Given as goal

abbrev pub invariant-loop-numbers : goal.invariant-loop-numbers
invariant-loop-numbers g l =
    (goal.iterator-loop-numbers g).can_next l.numbers-iterator
    × (goal.iterator-loop-numbers g).is_finite l.numbers-iterator
    × (l.end ≤ length l.text)
    × (length l.text ≡ length l.initial.text)
