-- `walks::add_flagged` meets its contract. Assumes nothing.
use Rattle.walks.proofs.LaunchLaws.{Adding}
use Rattle.walks.proofs.add_flagged.Given as goal

abbrev pub invariant-loop-i : goal.invariant-loop-i
invariant-loop-i l = Adding l.id l.pointer l.base l.adds l.fn.t l.initial.mem l.i l.records l.launched l.port l.mem l.stored
