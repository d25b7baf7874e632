-- `contexts::types::check_types` meets its contract. Assumes nothing.
use native.Mathlib.Omega.{arith}
use Rattle.std.proofs.lemmas.Result.{err_from_is_err_and}
use Rattle.contexts.proofs.CheckLaws.{type_skipped, type_passed, type_failed, types_end}
use Rattle.contexts.proofs.types.check_types.Goals as goal
use Rattle.contexts.proofs.types.check_types.Goals.{then-flag+in_ok-check_type, else-flag}

pub returns-in_err-check_type : goal.returns-in_err-check_type
returns-in_err-check_type c = let a = c.args in
    let p = err_from_is_err_and c.from_residual.result c.from_residual.ensures.1 in
    rw (p.1, p.2)
    (type_failed a.pointer a.adds a.mem.now c.loop-i.i c.loop-i-test.true c.flag.ensures c.loop-i.invariant c.if-flag.true (rw c.from.ensures at c.check_type.ensures) c.in_err-check_type.was)

pub loop-i-preserved : goal.loop-i-preserved
loop-i-preserved c = let a = c.args in
    let f = c.flag.ensures in
    elim c.if-flag.branch [
      | then-flag+in_ok-check_type w ↦ type_passed a.pointer a.adds a.mem.now c.loop-i.i c.loop-i-test.true f c.loop-i.invariant w.if-flag.true (rw w.from.ensures at w.check_type.ensures) w.in_ok-check_type.was
      | else-flag w ↦ type_skipped a.pointer a.adds a.mem.now c.loop-i.i c.loop-i-test.true f c.loop-i.invariant w.if-flag.false
    ]

pub returns : goal.returns
returns c = let a = c.args in
    types_end a.pointer a.adds a.mem.now c.loop-i.i (omega arith) c.loop-i.invariant
