-- `contexts::types::check_types` meets its contract. Assumes nothing.
use Rattle.contexts.proofs.CheckLaws.{CheckedTo}
use Rattle.contexts.proofs.types.check_types.Given as goal

abbrev pub invariant-loop-i : goal.invariant-loop-i
invariant-loop-i l = CheckedTo l.pointer l.adds l.mem l.i
