-- `walks::terminate_flagged` meets its contract. Assumes nothing.
use native.Mathlib.Omega.{arith}
use Rattle.walks.specs.Promises.{with_records}
use Rattle.walks.proofs.RecordLaws.{lent_length, records_rooms}
use Rattle.walks.proofs.WalkLaws.{ended_flagged}
use Rattle.walks.proofs.terminate_flagged.Goals as goal

pub end_flagged-gone-requires-clause-rooms : goal.end_flagged-gone-requires-clause-rooms
end_flagged-gone-requires-clause-rooms c =
    let at = c.records_of.ensures in
    rw (at.start, at.end, lent_length c.args.id)
    (records_rooms c.args.t c.args.id c.args.base _ _ (omega arith) (omega arith, omega arith) (omega arith) c.requires.rooms)

pub returns : goal.returns
unfolding with_records
returns c =
    let at = c.records_of.ensures in
    let n = lent_length c.args.id in
    rw (at.start, at.end, n)
    (ended_flagged c.args.t c.args.id c.args.base 2 c.args.drops (omega arith, omega arith) (omega arith) (rw (at.start, at.end, n) at c.end_flagged-gone.ensures))
