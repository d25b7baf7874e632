-- `session::play` meets its contract. Assumes nothing.
use native.Mathlib.Omega.{arith}
use mathlib.Core.Path.{sym}
use Rattle.trace.proofs.RecordLaws.{entry_stores}
use Rattle.session.proofs.SizeLaws.{table_sized}
use Rattle.session.proofs.SessionLaws.{going_begins, going_ends, going_bad, going_stores, going_calls}
use Rattle.session.proofs.play.Goals as goal

pub loop-record-init : goal.loop-record-init
loop-record-init c =
    let items = c.chunks-record-items.ensures in
    going_begins _ _ _ _ c.into_iter-record-iterator.ensures.into_iter_gives items.rest items.size (table_sized _ _ c.well_formed.0) c.requires.ready c.requires.records_in_bounds

pub returns-in_default : goal.returns-in_default
returns-in_default c = going_bad c.loop-record.invariant c.in-Some.record c.next.new.self c.in-Some.ensures.steps c.in_default.ensures

pub store_byte-requires : goal.store_byte-requires
store_byte-requires c =
    let inside = entry_stores _ _ (sym (rw c.in-Store.is at c.in-Ok.ensures)) in
    omega (arith, c.index.ensures, inside.0, c.loop-record.invariant.size)

pub loop-record-preserved-in-Store : goal.loop-record-preserved-in-Store
loop-record-preserved-in-Store c =
    going_stores c.loop-record.invariant c.in-Some.record c.next.new.self c.in-Some.ensures.steps (rw c.in-Store.is at c.in-Ok.ensures) c.index.ensures c.store_byte.ensures

pub loop-record-preserved : goal.loop-record-preserved
loop-record-preserved c =
    going_calls c.loop-record.invariant c.in-Some.record c.next.new.self c.in-Some.ensures.steps (rw c.in-Call.is at c.in-Ok.ensures) c.apply-outcome.ensures c.apply-outcome.auto.mem c.put.ensures

pub returns : goal.returns
returns c = going_ends c.loop-record.invariant c.in-None.ensures.steps.1.0
