-- `session::run` meets its contract. Assumes nothing.
use mathlib.Core.Path.{sym}
use Rattle.std.proofs.lemmas.Result.{err_from_is_err_and}
use Rattle.formed.proofs.CallLaws.{ready_checked}
use Rattle.session.proofs.RunLaws.{runs_refused, runs_roomless, runs_played}
use Rattle.session.proofs.run.Goals as goal

pub returns-in_err-checks : goal.returns-in_err-checks
returns-in_err-checks c =
    let p = err_from_is_err_and c.from_residual.result c.from_residual.ensures.1 in
    rw (p.1, p.2) (runs_refused _ _ _ _ c.checks.ensures c.in_err-checks.was)

pub play-requires-clause-ready : goal.play-requires-clause-ready
play-requires-clause-ready c = ready_checked c.checks.ensures c.in_ok-checks.was

pub returns-then-not-has_room : goal.returns-then-not-has_room
returns-then-not-has_room c = runs_roomless _ _ _ _ c.checks.ensures c.in_ok-checks.was (sym c.if-not-has_room.ensures)

pub returns : goal.returns
returns c = runs_played _ _ _ _ c.checks.ensures c.in_ok-checks.was (sym c.if-not-has_room.ensures) c.play.ensures
