-- `scan::checks` meets its contract. Assumes nothing.
use mathlib.Core.Path.{ap, ◌∙◌}
use Rattle.std.proofs.lemmas.Result.{err_from_is_err_and}
use Rattle.scan.proofs.ScanLaws.{bare, head_checked}
use Rattle.scan.proofs.checks.Goals as goal

pub returns-in_err-opens : goal.returns-in_err-opens
returns-in_err-opens c = let a = c.args in
    let p = err_from_is_err_and c.from_residual.result c.from_residual.ensures.1 in
    rw (p.1, p.2) (ap bare c.in_err-opens.ensures ∙ head_checked a.t a.len 0 0)

pub returns : goal.returns
returns c = let a = c.args in ap bare c.in_ok-opens.ensures ∙ head_checked a.t a.len 0 0
