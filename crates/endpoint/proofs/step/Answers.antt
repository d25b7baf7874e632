-- `endpoint::step` meets its contract. Assumes nothing.
use Rattle.std.proofs.lemmas.Result.{err_from_is_err_and}
use Rattle.endpoint.proofs.StepLaws.{refused_state, by_row}
use Rattle.endpoint.proofs.step.Goals as goal

pub returns-in_err-row : goal.returns-in_err-row
returns-in_err-row c = let a = c.args in
    let p = err_from_is_err_and c.from_residual.result c.from_residual.ensures.1 in
    rw (p.1, p.2) (refused_state a.e a.input a.at _ _ c.in_err-row.ensures.entry c.in_err-row.ensures.answers)

pub returns : goal.returns
returns c = let a = c.args in by_row a.e a.input a.at _ _ _ c.in_ok-row.ensures.entry c.report_of.ensures c.step_by.ensures
