-- The answers of a run fit where they were put.
-- Assumes nothing.
use mathlib.Core.Path.{◌≡◌, refl, sym, ap, ◌∙◌}
use mathlib.Core.Bool.{Bool, true, false, cond}
use mathlib.Core.List.{List, [], ◌∷◌}
use Prim.Native.Nat.{ℕ, zero, suc, ◌*◌, ◌≤◌}
use native.Mathlib.Omega.{arith}
use borrow.Author.Tests.{leb-true, eqb-false}
use lib.Dec.{eqb}
use lib.ListN.{length, drop, length-append}
use Rattle.std.specs.Prelude.{Result, Ok, Err}
use Rattle.guest.specs.Prog.{Mem}
use Rattle.guest.specs.Trace.{Event, call, store, step, course}
use Rattle.guest.proofs.SpliceLaws.{splice_length}
use Rattle.definition.specs.declared.Table.{Table}
use Rattle.definition.specs.Calls as calls
use Rattle.scan.specs.Heads.{code_for}
use Rattle.trace.specs.declared.Entry.{Entry}
use Rattle.trace.specs.declared.Entry.TheVariants.{Call, Store}
use Rattle.trace.specs.declared.BadRecord.{BadRecord}
use Rattle.trace.specs.Records.{entry_of}
use Rattle.session.specs.declared.Ran.{Ran}
use Rattle.session.specs.Sessions.{records, records_in, entries, events_of, all_numbers, replayed, room_for, refused_with, Plays, Runs}
use Rattle.std.proofs.lemmas.List.{length-map}
use Rattle.session.proofs.CourseLaws.{Defined}

records_count : (n : ℕ) (bs : List ℕ) → length (records n bs) ≡ n
unfolding records
records_count zero bs = refl
records_count (suc n) bs = ap suc (records_count n (drop 32 bs))

entries_count : (len : ℕ) (bs : List ℕ) → length (entries len bs) ≡ records_in (length bs)
unfolding entries
entries_count len bs = length-map (records (records_in (length bs)) bs) (entry_of len) ∙ records_count (records_in (length bs)) bs

events_count : (es : List (Result Entry BadRecord)) → length (events_of es) ≤ length es
unfolding events_of
events_count [] = omega arith
events_count (Ok (Call c) ∷ es) = omega (arith, events_count es)
events_count (Ok (Store b) ∷ es) = omega (arith, events_count es)
events_count (Err e ∷ es) = omega (arith, events_count es)

step_count : (e : Event calls.Call) (t : Table) (m : Mem) → length (step Defined e t m).answers ≤ 1
unfolding step
step_count (call c) t m = omega arith
step_count (store a v) t m = omega arith

course_count : (es : List (Event calls.Call)) (t : Table) (m : Mem) → length (course Defined es t m).answers ≤ length es
unfolding course
course_count [] t m = omega arith
course_count (e ∷ es) t m =
    let one = step Defined e t m in
    omega (arith, step_count e t m, course_count es one.table one.memory, length-append one.answers (course Defined es one.table one.memory).answers)

-- at most one for each record
pub replayed_count : (bs : List ℕ) (t : Table) (m : Mem) → length (replayed bs t m).answers ≤ records_in (length bs)
unfolding replayed
replayed_count bs t m =
    let es = entries (length m) bs in
    omega (arith, course_count (events_of es) t m, events_count es, entries_count (length m) bs)

-- a run that is not refused has room
room_of : (b : Bool) → ◌≡◌ {A = ℕ} (cond b 0 200) 0 → b ≡ true
room_of true e = refl
room_of false e = absurd (omega (arith, e))

unrefused : (code : ℕ) (b r : Bool) → eqb code 0 ≡ b → ◌≡◌ {A = ℕ} (cond b (cond r 0 200) code) 0 → r ≡ true
unrefused code true r q e = room_of r e
unrefused code false r q e = absurd (eqb-false code 0 q e)

pub answers_fit : {t : Table} {m bs ns : List ℕ} {r : Ran} {m' ns' : List ℕ} → Runs t m bs ns (Ok r) m' ns' → 8 * r.answered ≤ length ns'
unfolding refused_with
answers_fit {t} {m} {bs} {ns} {r} {m'} {ns'} x =
    let p : Plays t m bs ns r m' ns' = x.played in
    let k : room_for (length bs) (length ns) ≡ true = unrefused (code_for t (length m)) _ (room_for (length bs) (length ns)) refl (sym x.code) in
    let l : length ns' ≡ length ns = ap (λ (y : Mem). length y) p.numbers ∙ splice_length ns 0 (all_numbers (replayed bs t m).answers) in
    omega (arith, leb-true (8 * records_in (length bs)) (length ns) k, p.answered, replayed_count bs t m)
