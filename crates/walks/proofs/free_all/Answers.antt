-- `walks::free_all` meets its contract. Assumes nothing.
use native.Mathlib.Omega.{arith}
use Rattle.definition.specs.Table.{slot_of, with_slot}
use Rattle.walks.specs.Promises.{with_records}
use Rattle.walks.proofs.RecordLaws.{lent_length}
use Rattle.walks.proofs.FreeLaws.{freeing_begins, freeing_rooms, freeing_goes, freeing_ends}
use Rattle.walks.proofs.free_all.Goals as goal

pub loop-id-init : goal.loop-id-init
loop-id-init c = freeing_begins c.args.t c.args.mem.now (omega arith) c.requires

pub end_flagged-gone-requires-clause-rooms : goal.end_flagged-gone-requires-clause-rooms
unfolding slot_of
end_flagged-gone-requires-clause-rooms c =
    let at = c.records_of.ensures in
    rw (at.start, at.end, lent_length c.loop-id.id) (freeing_rooms c.loop-id.invariant (omega arith))

pub loop-id-preserved : goal.loop-id-preserved
unfolding slot_of with_slot with_records
loop-id-preserved c =
    let at = c.records_of.ensures in
    let n = lent_length c.loop-id.id in
    rw (at.start, at.end, n)
    (freeing_goes c.loop-id.invariant (omega arith) (rw (at.start, at.end, n) at c.end_flagged-gone.ensures) c.end_flagged-gone.auto.mem
    (rw (at.start, at.end, n) at c.end_flagged-gone.auto.records))

pub returns : goal.returns
returns c = freeing_ends c.loop-id.invariant (omega arith)
