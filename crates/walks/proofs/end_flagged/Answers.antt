-- `walks::end_flagged` meets its contract. Assumes nothing.
use mathlib.Core.Path.{sym, ◌∙◌}
use native.Mathlib.Omega.{arith}
use Rattle.walks.proofs.WalkLaws.{ending_begins, ending_marks, ending_skips, ending_passes, ending_ends}
use Rattle.walks.proofs.end_flagged.Goals as goal
use Rattle.walks.proofs.end_flagged.Goals.{then-flag+then-not-is_disabled, else-flag, else-flag-via-then-flag+else-not-is_disabled, else-flag-via-else-flag}

pub loop-i-init : goal.loop-i-init
loop-i-init c = ending_begins _ _ _ _ _ (omega arith) c.requires.records_length c.requires.rooms

pub loop-i-preserved : goal.loop-i-preserved
loop-i-preserved c =
    let l = c.loop-i in
    let low = c.requires.lo_bounds.0 in
    elim c.if-flag.branch [
      | then-flag+then-not-is_disabled w ↦
          rw (w.records-is, w.mem-is, w.mask-is, w.stored-is, w.marked-mask.ensures)
          (ending_marks l.invariant low (omega arith) (sym c.flag.ensures ∙ w.if-flag.true) (sym w.is_disabled.ensures ∙ w.if-not-is_disabled.true) w.end_one-r.ensures w.end_one-r.auto.mem)
      | else-flag w ↦
          rw (w.records-is, w.mem-is, w.mask-is, w.stored-is)
          (elim w.else-flag.branch [
            | else-flag-via-then-flag+else-not-is_disabled v ↦
                ending_passes l.invariant low (omega arith) (sym v.is_disabled.ensures ∙ v.if-not-is_disabled.false)
            | else-flag-via-else-flag v ↦ ending_skips l.invariant (omega arith) (sym c.flag.ensures ∙ v.if-flag.false)
          ])
    ]

pub returns : goal.returns
returns c = ending_ends c.loop-i.invariant (omega arith)
