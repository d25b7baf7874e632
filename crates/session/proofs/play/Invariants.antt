-- `session::play` meets its contract. Assumes nothing.
use Rattle.session.proofs.SessionLaws.{Going}
use Rattle.session.proofs.play.Given as goal

abbrev pub invariant-loop-record : goal.invariant-loop-record
invariant-loop-record l = Going l.records l.initial.table l.initial.mem l.initial.answers l.record-iterator l.answered l.table l.mem l.answers
