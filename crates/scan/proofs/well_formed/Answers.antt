-- `scan::well_formed` meets its contract. Assumes nothing.
use mathlib.Core.Path.{ap, ◌∙◌}
use Rattle.std.specs.Prelude.{is_ok}
use Rattle.scan.proofs.ScanLaws.{head_formed}
use Rattle.scan.proofs.well_formed.Goals as goal

pub returns : goal.returns
returns c = c.is_ok.ensures.value ∙ ap is_ok c.opens.ensures ∙ head_formed c.args.t 0 0
