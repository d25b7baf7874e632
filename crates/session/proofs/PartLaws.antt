-- A trace in two parts, the first of whole records and none of them bad: the second is replayed from where the first left. So a trace may be read in parts.
-- Assumes nothing.
use mathlib.Core.Path.{◌≡◌, refl, sym, ap, ap₂, ◌∙◌}
use mathlib.Core.Bool.{false}
use mathlib.Core.List.{List, [], ◌∷◌, ◌++◌, map, map-append}
use Prim.Native.Nat.{ℕ, zero, suc, ◌+◌, ◌*◌}
use native.Mathlib.Nat.{zero-add, suc-add}
use native.Mathlib.Omega.{arith}
use lib.ListN.{length, drop, length-append, length-drop}
use lib.Seq.{take-append-le, drop-append-le}
use Rattle.std.specs.Prelude.{Result, Ok, Err}
use Rattle.guest.specs.Prog.{Mem}
use Rattle.guest.specs.Trace.{Event, call, store, step, course, left}
use Rattle.guest.proofs.ReadLaws.{run_length}
use Rattle.guest.proofs.SpliceLaws.{splice_length}
use Rattle.definition.specs.declared.Table.{Table}
use Rattle.definition.specs.declared.Answer.{Answer}
use Rattle.definition.specs.Calls as calls
use Rattle.definition.specs.Calls.{prog}
use Rattle.definition.proofs.CodeLaws.{keeps_length}
use Rattle.definition.proofs.FormedFacts.{Proper}
use Rattle.definition.proofs.FormedCalls.{course_proper}
use Rattle.formed.specs.Promises.{Ready}
use Rattle.trace.specs.declared.Entry.{Entry}
use Rattle.trace.specs.declared.Entry.TheVariants.{Call, Store}
use Rattle.trace.specs.declared.BadRecord.{BadRecord}
use Rattle.trace.specs.Records.{entry_of}
use Rattle.session.specs.declared.Ran.{Ran}
use Rattle.session.specs.Sessions.{records, records_in, entries, events_of, any_bad, replayed, Plays}
use Rattle.session.proofs.CourseLaws.{Defined, after, after_after}

-- ---- the records of both parts

records_append : (k n : ℕ) (xs ys : List ℕ) → length xs ≡ 32 * k → records (k + n) (xs ++ ys) ≡ records k xs ++ records n ys
unfolding records
records_append zero n [] ys e = rw (zero-add n)
records_append zero n (x ∷ xs) ys e = absurd (omega (arith, e))
records_append (suc k) n xs ys e =
    rw (suc-add k n)
    (ap₂ ◌∷◌ (take-append-le 32 xs ys (omega (arith, e)))
    (ap (records (k + n)) (drop-append-le 32 xs ys (omega (arith, e))) ∙ records_append k n (drop 32 xs) ys (omega (arith, e, length-drop 32 xs))))

pub entries_append : (len k : ℕ) (xs ys : List ℕ) → length xs ≡ 32 * k → entries len (xs ++ ys) ≡ entries len xs ++ entries len ys
unfolding entries
entries_append len k xs ys e =
    let a : records_in (length (xs ++ ys)) ≡ k + records_in (length ys) = omega (arith, e, length-append xs ys) in
    let b : records_in (length xs) ≡ k = omega (arith, e) in
    ap (λ (n : ℕ). map (entry_of len) (records n (xs ++ ys))) a
    ∙ ap (map (entry_of len)) (records_append k (records_in (length ys)) xs ys e)
    ∙ map-append (entry_of len) (records k xs) (records (records_in (length ys)) ys)
    ∙ ap (λ (n : ℕ). map (entry_of len) (records n xs) ++ map (entry_of len) (records (records_in (length ys)) ys)) (sym b)

-- ---- what they tell

pub events_append : (es fs : List (Result Entry BadRecord)) → any_bad es ≡ false → events_of (es ++ fs) ≡ events_of es ++ events_of fs
unfolding events_of any_bad
events_append [] fs e = refl
events_append (Ok (Call c) ∷ es) fs e = rw (events_append es fs e)
events_append (Ok (Store b) ∷ es) fs e = rw (events_append es fs e)
events_append (Err x ∷ es) fs e = let z : ◌≡◌ {A = ℕ} 0 1 = cc in absurd (omega arith)

pub bad_append : (es fs : List (Result Entry BadRecord)) → any_bad es ≡ false → any_bad (es ++ fs) ≡ any_bad fs
unfolding any_bad
bad_append [] fs e = refl
bad_append (Ok (Call c) ∷ es) fs e = bad_append es fs e
bad_append (Ok (Store b) ∷ es) fs e = bad_append es fs e
bad_append (Err x ∷ es) fs e = let z : ◌≡◌ {A = ℕ} 0 1 = cc in absurd (omega arith)

-- ---- what they leave

pub course_append : (es fs : List (Event calls.Call)) (t : Table) (m : Mem)
    → course Defined (es ++ fs) t m ≡ after (course Defined es t m).answers (course Defined fs (course Defined es t m).table (course Defined es t m).memory)
unfolding course
course_append [] fs t m = refl
course_append (e ∷ es) fs t m =
    let one = step Defined e t m in
    let rest = course Defined es one.table one.memory in
    ap (after one.answers) (course_append es fs one.table one.memory) ∙ after_after one.answers rest.answers (course Defined fs rest.table rest.memory)

step_length : (e : Event calls.Call) (t : Table) (m : Mem) → length (step Defined e t m).memory ≡ length m
unfolding step left
step_length (call c) t m = run_length (prog c (length m) t) m 0
step_length (store a v) t m = splice_length m a (v ∷ [])

pub course_length : (es : List (Event calls.Call)) (t : Table) (m : Mem) → length (course Defined es t m).memory ≡ length m
unfolding course
course_length [] t m = refl
course_length (e ∷ es) t m = course_length es (step Defined e t m).table (step Defined e t m).memory ∙ step_length e t m

step_fits : (e : Event calls.Call) (t : Table) (m : Mem) → (step Defined e t m).table.length ≡ t.length
unfolding step left
step_fits (call c) t m = keeps_length c t m
step_fits (store a v) t m = refl

course_fits : (es : List (Event calls.Call)) (t : Table) (m : Mem) → (course Defined es t m).table.length ≡ t.length
unfolding course
course_fits [] t m = refl
course_fits (e ∷ es) t m = course_fits es (step Defined e t m).table (step Defined e t m).memory ∙ step_fits e t m

-- ---- the definition

module _ (k : ℕ) (xs ys : List ℕ) (e : length xs ≡ 32 * k) (t : Table) (m : Mem) (good : any_bad (entries (length m) xs) ≡ false) where
  pub replayed_parts : replayed (xs ++ ys) t m ≡ after (replayed xs t m).answers (replayed ys (replayed xs t m).table (replayed xs t m).memory)
  unfolding replayed
  replayed_parts =
      let first = events_of (entries (length m) xs) in
      ap (λ (es : List (Result Entry BadRecord)). course Defined (events_of es) t m) (entries_append (length m) k xs ys e)
      ∙ ap (λ (es : List (Event calls.Call)). course Defined es t m) (events_append (entries (length m) xs) (entries (length m) ys) good)
      ∙ course_append first (events_of (entries (length m) ys)) t m
      ∙ ap
      (λ (n : ℕ). after (course Defined first t m).answers (course Defined (events_of (entries n ys)) (course Defined first t m).table (course Defined first t m).memory))
      (sym (course_length first t m))

  pub bad_parts : any_bad (entries (length m) (xs ++ ys)) ≡ any_bad (entries (length m) ys)
  bad_parts = ap any_bad (entries_append (length m) k xs ys e) ∙ bad_append (entries (length m) xs) (entries (length m) ys) good

-- ---- the code: of every end that the contract allows

module _ {t : Table} {m xs ns : List ℕ} {r : Ran} {m' ns' : List ℕ} (p : Plays t m xs ns r m' ns') where
  length_kept : length m' ≡ length m
  unfolding replayed
  length_kept = ap (λ (x : Mem). length x) p.memory ∙ course_length (events_of (entries (length m) xs)) t m

  -- what was played can be played on
  pub plays_ready : Proper t → t.length ≡ length m → Ready r.table m'
  unfolding replayed
  plays_ready w f =
      let es = events_of (entries (length m) xs) in
      record {
        formed = rw p.table (course_proper es t m w).formed;
        size = ap (λ (u : Table). u.length) p.table ∙ course_fits es t m ∙ f ∙ sym length_kept;
      }

  -- .. and both together are the run of the whole
  pub plays_parts : (k : ℕ) → length xs ≡ 32 * k → r.bad ≡ false → {ys ks : List ℕ} {s : Ran} {m'' ks' : List ℕ} → Plays r.table m' ys ks s m'' ks'
      → (replayed (xs ++ ys) t m ≡ record { answers = (replayed xs t m).answers ++ (replayed ys r.table m').answers; table = s.table; memory = m'' })
      × (s.bad ≡ any_bad (entries (length m) (xs ++ ys)))
  plays_parts k e b {ys} {s = s} {m''} q =
      let good : any_bad (entries (length m) xs) ≡ false = sym p.bad ∙ b in
      let one : List Answer = (replayed xs t m).answers in
      let two = replayed ys r.table m' in
      let ends : record { answers = one ++ two.answers; table = s.table; memory = m'' } ≡ after one two =
      λ i. record { answers = one ++ two.answers; table = q.table i; memory = q.memory i } in (
        replayed_parts k xs ys e t m good
            ∙ ap (after one) (sym (λ i. replayed ys (p.table i) (p.memory i)))
            ∙ sym ends,
        q.bad ∙ ap (λ (n : ℕ). any_bad (entries n ys)) length_kept ∙ sym (bad_parts k xs ys e t m good),
      )
