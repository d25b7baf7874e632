-- `walks::add_flagged` meets its contract. Assumes nothing.
use mathlib.Core.Path.{sym, ◌∙◌}
use native.Mathlib.Omega.{arith}
use Rattle.walks.specs.Promises.{with_records}
use Rattle.walks.proofs.RecordLaws.{lent_length}
use Rattle.walks.proofs.LaunchLaws.{adding_begins, adding_goes, adding_skips, adding_ends}
use Rattle.walks.proofs.add_flagged.Goals as goal
use Rattle.walks.proofs.add_flagged.Goals.{then-flag, else-flag}

pub loop-i-init : goal.loop-i-init
loop-i-init c =
    let at = c.records_of.ensures in
    rw (at.start, at.end, lent_length c.args.id) (adding_begins _ _ _ _ _ _ (omega arith) (omega arith, omega arith))

pub loop-i-preserved : goal.loop-i-preserved
loop-i-preserved c =
    let l = c.loop-i in
    elim c.if-flag.branch [
      | then-flag w ↦
          rw (w.mem-is, w.records-is, w.launched-is, w.port-is, w.stored-is, w.marked-launched.ensures)
          (adding_goes l.invariant (omega arith) (omega arith, omega arith) (omega arith) (sym c.flag.ensures ∙ w.if-flag.true) (rw w.context_at-from.ensures at w.copy_launch-r.ensures)
          w.copy_launch-r.auto.mem)
      | else-flag w ↦
          rw (w.mem-is, w.records-is, w.launched-is, w.port-is, w.stored-is)
          (adding_skips l.invariant (omega arith) (sym c.flag.ensures ∙ w.if-flag.false))
    ]

pub returns : goal.returns
unfolding with_records
returns c =
    let at = c.records_of.ensures in
    rw (at.start, at.end, lent_length c.args.id) (adding_ends c.loop-i.invariant (omega arith))
