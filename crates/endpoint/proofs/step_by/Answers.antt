-- `endpoint::step_by` meets its contract. Assumes nothing.
use mathlib.Core.Path.{sym, ◌∙◌}
use Rattle.endpoint.proofs.StepLaws.{takes_done}
use Rattle.endpoint.proofs.step_by.Goals as goal

pub returns : goal.returns
returns c = let a = c.args in
    takes_done a.row a.e a.report a.at c.requires.code_bound (sym c.misaligned.ensures ∙ c.if-misaligned.false) c.moved-endpoint.ensures c.from.ensures
    c.submits-submit.ensures c.store-stored.ensures c.requires.ready.aligned
