-- `scan::lookup` meets its contract. Assumes nothing.
use mathlib.Core.Path.{◌∙◌}
use Rattle.scan.proofs.ScanLaws.{found_is}
use Rattle.scan.proofs.lookup.Goals as goal

pub returns : goal.returns
returns c = c.find.ensures ∙ found_is c.args.t c.args.id
