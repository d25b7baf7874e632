-- `scan::opens` meets its contract. Each loop's invariant: what was found so far, with what is left, is the whole test (`Scan`).
-- Assumes nothing.
use mathlib.Core.Bool.{true, false}
use Rattle.definition.specs.Table.{slot_of, slot_ok}
use Rattle.scan.specs.Records.{clear}
use Rattle.scan.proofs.ScanLaws.{test_of, Scan}
use Rattle.scan.proofs.opens.Given as goal

abbrev pub invariant-loop-n : goal.invariant-loop-n
invariant-loop-n l = Scan (test_of false l.t.length (slot_of l.t l.s).base l.t l.s) 32 l.n (clear l.flags l.cycle l.pointer)

abbrev pub invariant-loop-n-2 : goal.invariant-loop-n-2
invariant-loop-n-2 l = Scan (test_of true l.t.length (slot_of l.t l.s).base l.t l.s) 32 l.n (clear l.flags l.cycle l.pointer)

abbrev pub invariant-loop-s : goal.invariant-loop-s
invariant-loop-s l = Scan (slot_ok l.t) 17 l.s true
