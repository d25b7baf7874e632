-- `walks::end_flagged` meets its contract. Assumes nothing.
use Rattle.walks.proofs.WalkLaws.{Ending}
use Rattle.walks.proofs.end_flagged.Given as goal

abbrev pub invariant-loop-i : goal.invariant-loop-i
invariant-loop-i l = Ending l.base l.lo l.flags l.initial.records l.initial.mem l.i l.records l.mask l.mem l.stored
