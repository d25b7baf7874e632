-- `scan::opens` meets its contract. Each loop's invariant: what was found so far, with what is left, is the whole test (`Scan`).
-- Assumes nothing.
use mathlib.Core.Path.{sym, ◌∙◌}
use mathlib.Core.Bool.{true}
use native.Mathlib.Omega.{arith}
use borrow.Author.Tests.{not-true, not-false}
use Rattle.definition.specs.Table.{endpoint_of, slot_of, slot_ok}
use Rattle.scan.proofs.ScanLaws.{scan_gathers, slot_bad, slot_is, scan_goes, scan_ends, scan_fails, over_limit, over_length, slots_decide, found_is, head_malformed, head_other, head_absent, head_outside, head_inside, bounds}
use Rattle.scan.proofs.opens.Goals as goal

pub returns-then-t-gt16 : goal.returns-then-t-gt16
returns-then-t-gt16 c = let a = c.args in head_malformed a.t a.len a.id a.i (over_limit a.t c.if-t-gt16.true)

pub returns-then-t-gt1073741824 : goal.returns-then-t-gt1073741824
returns-then-t-gt1073741824 c = let a = c.args in
    head_malformed a.t a.len a.id a.i (over_length a.t c.if-t-gt16.false c.if-t-gt1073741824.true)

pub returns-then-not-slot_ok : goal.returns-then-not-slot_ok
unfolding slot_of
returns-then-not-slot_ok c = let a = c.args in
    head_malformed a.t a.len a.id a.i
    (slots_decide a.t c.if-t-gt16.false c.if-t-gt1073741824.false
    (scan_fails (slot_ok a.t) c.loop-s.invariant (omega arith) (slot_bad a.t c.loop-s.s c.slot_ok.ensures c.if-not-slot_ok.true)))

pub loop-n-preserved : goal.loop-n-preserved
unfolding endpoint_of
loop-n-preserved c = let l = c.loop-n in let f = c.nonzero-wrong.result in
    scan_gathers _ l.flags l.cycle l.pointer f.flags f.cycle f.pointer l.invariant (omega arith) c.nonzero-wrong.ensures

pub returns-then-any : goal.returns-then-any
unfolding slot_of
returns-then-any c = let a = c.args in
    head_malformed a.t a.len a.id a.i
    (slots_decide a.t c.if-t-gt16.false c.if-t-gt1073741824.false
    (scan_fails (slot_ok a.t) c.loop-s.invariant (omega arith)
    (slot_is a.t c.loop-s.s c.slot_ok.ensures c.if-not-slot_ok.false (sym c.if-not-has_contexts.true ∙ c.has_contexts.ensures) c.loop-n.invariant (omega arith)
    ∙ not-true _ (sym c.any.ensures ∙ c.if-any.true))))

pub loop-s-preserved-then-not-has_contexts : goal.loop-s-preserved-then-not-has_contexts
unfolding slot_of
loop-s-preserved-then-not-has_contexts c = let a = c.args in
    scan_goes (slot_ok a.t) c.loop-s.invariant (omega arith) true
    (sym (slot_is a.t c.loop-s.s c.slot_ok.ensures c.if-not-slot_ok.false (sym c.if-not-has_contexts.true ∙ c.has_contexts.ensures) c.loop-n.invariant (omega arith)
    ∙ not-false _ (sym c.any.ensures ∙ c.if-any.false)))

pub loop-n-2-preserved : goal.loop-n-2-preserved
unfolding endpoint_of slot_of
loop-n-2-preserved c = let l = c.loop-n-2 in let f = c.faults_of-wrong.result in
    scan_gathers _ l.flags l.cycle l.pointer f.flags f.cycle f.pointer l.invariant (omega arith) c.faults_of-wrong.ensures

pub returns-then-any-2 : goal.returns-then-any-2
unfolding slot_of
returns-then-any-2 c = let a = c.args in
    head_malformed a.t a.len a.id a.i
    (slots_decide a.t c.if-t-gt16.false c.if-t-gt1073741824.false
    (scan_fails (slot_ok a.t) c.loop-s.invariant (omega arith)
    (slot_is a.t c.loop-s.s c.slot_ok.ensures c.if-not-slot_ok.false (sym c.if-not-has_contexts.false ∙ c.has_contexts.ensures) c.loop-n-2.invariant (omega arith)
    ∙ not-true _ (sym c.any-in-loop-s.ensures ∙ c.if-any-2.true))))

pub loop-s-preserved : goal.loop-s-preserved
unfolding slot_of
loop-s-preserved c = let a = c.args in
    scan_goes (slot_ok a.t) c.loop-s.invariant (omega arith) true
    (sym (slot_is a.t c.loop-s.s c.slot_ok.ensures c.if-not-slot_ok.false (sym c.if-not-has_contexts.false ∙ c.has_contexts.ensures) c.loop-n-2.invariant (omega arith)
    ∙ not-false _ (sym c.any-in-loop-s.ensures ∙ c.if-any-2.false)))

pub returns-then-t-len : goal.returns-then-t-len
returns-then-t-len c = let a = c.args in
    let formed = slots_decide a.t c.if-t-gt16.false c.if-t-gt1073741824.false (sym (scan_ends (slot_ok a.t) c.loop-s.invariant (omega arith))) in
    head_other a.t a.len a.id a.i formed c.if-t-len.true

pub returns-in_default : goal.returns-in_default
returns-in_default c = let a = c.args in
    let formed = slots_decide a.t c.if-t-gt16.false c.if-t-gt1073741824.false (sym (scan_ends (slot_ok a.t) c.loop-s.invariant (omega arith))) in
    head_absent a.t a.len a.id a.i formed c.if-t-len.false (sym c.in_default.is ∙ c.find.ensures ∙ found_is a.t a.id)

pub returns-then-not-in_range : goal.returns-then-not-in_range
returns-then-not-in_range c = let a = c.args in
    let formed = slots_decide a.t c.if-t-gt16.false c.if-t-gt1073741824.false (sym (scan_ends (slot_ok a.t) c.loop-s.invariant (omega arith))) in
    head_outside a.t a.len a.id a.i formed c.if-t-len.false c.find.ensures c.in-Some.is c.in_range.ensures c.if-not-in_range.true

pub overflow_sub-k : goal.overflow_sub-k
overflow_sub-k c = let a = c.args in
    let q = bounds a.t a.id a.i c.find.ensures c.in-Some.is c.in_range.ensures c.if-not-in_range.false in
    omega (arith, q.0, q.1, q.2, q.3)

pub overflow_mul-k : goal.overflow_mul-k
overflow_mul-k c = let a = c.args in
    let q = bounds a.t a.id a.i c.find.ensures c.in-Some.is c.in_range.ensures c.if-not-in_range.false in
    omega (arith, q.0, q.1, q.2, q.3)

pub overflow_add-k : goal.overflow_add-k
overflow_add-k c = let a = c.args in
    let q = bounds a.t a.id a.i c.find.ensures c.in-Some.is c.in_range.ensures c.if-not-in_range.false in
    omega (arith, q.0, q.1, q.2, q.3)

pub offset_bounds-t-k : goal.offset_bounds-t-k
offset_bounds-t-k c = let a = c.args in
    let q = bounds a.t a.id a.i c.find.ensures c.in-Some.is c.in_range.ensures c.if-not-in_range.false in
    omega (arith, q.0, q.1, q.2, q.3)

pub bounds-t-k : goal.bounds-t-k
bounds-t-k c = let a = c.args in
    let q = bounds a.t a.id a.i c.find.ensures c.in-Some.is c.in_range.ensures c.if-not-in_range.false in
    omega (arith, q.0, q.1, q.2, q.3)

pub returns : goal.returns
unfolding endpoint_of
returns c = let a = c.args in
    let formed = slots_decide a.t c.if-t-gt16.false c.if-t-gt1073741824.false (sym (scan_ends (slot_ok a.t) c.loop-s.invariant (omega arith))) in
    head_inside a.t a.len a.id a.i formed c.if-t-len.false c.find.ensures c.in-Some.is c.in_range.ensures c.if-not-in_range.false
