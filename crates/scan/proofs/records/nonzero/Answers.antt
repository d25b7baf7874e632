-- `scan::records::nonzero` meets its contract. Assumes nothing.
use Rattle.definition.specs.Table.{is_zero}
use Rattle.scan.proofs.records.nonzero.Goals as goal

pub returns : goal.returns
unfolding is_zero
returns c = rw c.number.ensures
