-- `scan::records::Faults::any` meets its contract. Assumes nothing.
use mathlib.Core.Path.{ap}
use mathlib.Core.Bool.{not}
use Rattle.scan.proofs.ScanLaws.{clear_all}
use Rattle.scan.proofs.records.Faults.any.Goals as goal

pub returns : goal.returns
returns c = let f = c.args.self in rw (c.from.ensures, c.from-2.ensures) (ap not (clear_all f.flags f.cycle f.pointer))
