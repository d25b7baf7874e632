-- A run on its way: the whole trace leaves the answers so far, and then what its rest leaves from the present table and memory.
-- Assumes nothing.
use mathlib.Core.Path.{◌≡◌, refl, sym, ap, ◌∙◌}
use mathlib.Core.Bool.{Bool, true, false}
use mathlib.Core.List.{List, [], ◌∷◌, ◌++◌, append-nil}
use Prim.Native.Nat.{ℕ, ◌+◌, ◌*◌, ◌≤◌, ◌<◌, min}
use native.Mathlib.Omega.{arith}
use lib.ListN.{length, length-append}
use Rattle.std.specs.Prelude.{Result, Ok, Err, Some}
use Rattle.std.proofs.Common.{Bor}
use Rattle.std.specs.declared.slice.Chunks.{Chunks}
use Rattle.std.specs.Slice.Iter.{chunks_rest, chunks_size, chunks_steps}
use Rattle.guest.specs.Prog.{Mem, splice}
use Rattle.guest.specs.Trace.{Event, Course, course}
use Rattle.guest.proofs.SpliceLaws.{splice_sets, splice_length}
use Rattle.guest.proofs.WordLaws.{splice_join}
use Rattle.definition.specs.declared.Table.{Table}
use Rattle.definition.specs.declared.Answer.{Answer}
use Rattle.definition.specs.declared.Outcome.{Outcome}
use Rattle.definition.specs.Calls as calls
use Rattle.definition.proofs.TableLaws.{Sized}
use Rattle.definition.proofs.FormedFacts.{Proper}
use Rattle.commands.specs.Promises.{Answers}
use Rattle.formed.specs.Promises.{Ready}
use Rattle.slot_manager.proofs.Demands.{stays_ready, stays_proper}
use Rattle.trace.specs.declared.Entry.{Entry}
use Rattle.trace.specs.declared.Entry.TheVariants.{Call, Store}
use Rattle.trace.specs.declared.BadRecord.{BadRecord}
use Rattle.trace.specs.declared.Call as declared
use Rattle.trace.specs.declared.Byte.{Byte}
use Rattle.trace.specs.Events.{call_of}
use Rattle.trace.specs.Records.{entry_of}
use Rattle.session.specs.Sessions.{records_in, entries, events_of, any_bad, numbers, all_numbers, replayed, Plays}
use Rattle.session.proofs.RecordLaws.{entries_none, entries_first, numbers_length, numbers_append}
use Rattle.session.proofs.CourseLaws.{Defined, after, after_after, course_call, course_store, course_none}

-- what the records from bs on leave
abbrev pub Rest : ℕ → List ℕ → Table → Mem → Course Answer Table
Rest len bs t m = course Defined (events_of (entries len bs)) t m

-- begun with t₀, m₀ and ns₀ on the trace bs; now s has its rest, with these
pub record Going (bs : List ℕ) (t₀ : Table) (m₀ ns₀ : List ℕ) (s : Chunks ℕ) (answered : ℕ) (t : Table) (m ns : List ℕ) : Type 0 where
  pub pieces : chunks_size s ≡ 32
  pub proper : Proper t
  pub fits : t.length ≡ length m
  pub size : length m ≡ length m₀
  pub wide : length ns ≡ length ns₀
  pub room : 8 * (answered + records_in (length (chunks_rest s))) ≤ length ns₀
  pub so_far : List Answer
  pub count : answered ≡ length so_far
  pub written : ns ≡ splice ns₀ 0 (all_numbers so_far)
  pub whole : Rest (length m₀) bs t₀ m₀ ≡ after so_far (Rest (length m₀) (chunks_rest s) t m)
  pub bad : any_bad (entries (length m₀) bs) ≡ any_bad (entries (length m₀) (chunks_rest s))

-- at the start
pub going_begins : (bs : List ℕ) (t : Table) (m ns : List ℕ) {s s₀ : Chunks ℕ} → s ≡ s₀ → chunks_rest s₀ ≡ bs → chunks_size s₀ ≡ 32
    → Sized t → Ready t m → 8 * records_in (length bs) ≤ length ns → Going bs t m ns s 0 t m ns
unfolding all_numbers
going_begins bs t m ns {s} {s₀} q r k z w h =
    let all : chunks_rest s ≡ bs = ap chunks_rest q ∙ r in
    record {
      pieces = ap chunks_size q ∙ k;
      proper = record { sized = z; formed = w.formed };
      fits = w.size;
      size = refl;
      wide = refl;
      room = omega (arith, h, ap (λ (l : List ℕ). length l) all);
      so_far = [];
      count = refl;
      written = sym (splice_sets ns 0 []);
      whole = ap (λ (l : List ℕ). Rest (length m) l t m) (sym all);
      bad = ap (λ (l : List ℕ). any_bad (entries (length m) l)) (sym all);
    }

module _ {bs : List ℕ} {t₀ : Table} {m₀ ns₀ : List ℕ} {s : Chunks ℕ} {answered : ℕ} {t : Table} {m ns : List ℕ} (g : Going bs t₀ m₀ ns₀ s answered t m ns) where
  abbrev l : List ℕ
  l = chunks_rest s

  pub going_ready : Ready t m
  going_ready = record { formed = g.proper.formed; size = g.fits }

  -- there is room for one answer more
  pub going_room : 0 < length l → 8 * answered + 8 ≤ length ns
  going_room h = omega (arith, g.room, g.wide)

  -- nothing more is to be done
  going_stops : (b : Bool) → events_of (entries (length m₀) l) ≡ [] → any_bad (entries (length m₀) l) ≡ b
      → Plays t₀ m₀ bs ns₀ (record { table = t; answered = answered; bad = b }) m ns
  unfolding replayed
  going_stops b none e =
      let all : Rest (length m₀) bs t₀ m₀ ≡ record { answers = g.so_far; table = t; memory = m } =
      g.whole
      ∙ ap (λ (es : List (Event calls.Call)). after g.so_far (course Defined es t m)) none
      ∙ ap (after g.so_far) (course_none t m)
      ∙ ap (λ (xs : List Answer). record { answers = xs; table = t; memory = m }) (append-nil g.so_far) in
      record {
        table = sym (ap (λ (c : Course Answer Table). c.table) all);
        memory = sym (ap (λ (c : Course Answer Table). c.memory) all);
        numbers = g.written ∙ ap (λ (c : Course Answer Table). splice ns₀ 0 (all_numbers c.answers)) (sym all);
        answered = g.count ∙ ap (λ (c : Course Answer Table). length c.answers) (sym all);
        bad = sym (g.bad ∙ e);
      }

  -- no record is left
  pub going_ends : length l ≡ 0 → Plays t₀ m₀ bs ns₀ (record { table = t; answered = answered; bad = false }) m ns
  unfolding events_of any_bad
  going_ends h =
      let none : entries (length m₀) l ≡ [] = entries_none (length m₀) l h in
      going_stops false (ap events_of none) (ap any_bad none)

  -- the next record is x, and s' has what is left behind it
  module _ (x : Bor (List ℕ)) (s' : Chunks ℕ) (k : chunks_steps s (Some x) s') where
    abbrev l' : List ℕ
    l' = chunks_rest s'

    n : length x.now ≡ min 32 (length l)
    n = rw g.pieces at k.1.1

    first : {e : Result Entry BadRecord} → e ≡ entry_of (length m₀) x.now → entries (length m₀) l ≡ e ∷ entries (length m₀) l'
    first d = entries_first (length m₀) x.now l' k.1.0 n k.1.2 ∙ ap (λ (e : Result Entry BadRecord). e ∷ entries (length m₀) l') (sym d)

    sum : length l ≡ length x.now + length l'
    sum = ap (λ (y : List ℕ). length y) k.1.0 ∙ length-append x.now l'

    -- it is bad
    pub going_bad : {b : BadRecord} → Err b ≡ entry_of (length m₀) x.now → Plays t₀ m₀ bs ns₀ (record { table = t; answered = answered; bad = true }) m ns
    unfolding events_of any_bad
    going_bad d = going_stops true (ap events_of (first d)) (ap any_bad (first d))

    -- it is a guest store
    pub going_stores : {b : Byte} {i : ℕ} {m' : Mem} → Ok (Store b) ≡ entry_of (length m₀) x.now → i ≡ b.address → m' ≡ splice m i (b.value ∷ []) → Going bs t₀ m₀ ns₀ s' answered t m' ns
    unfolding events_of any_bad
    going_stores {b} {i} {m'} d a w =
        let stored : m' ≡ splice m b.address (b.value ∷ []) = w ∙ ap (λ (i : ℕ). splice m i (b.value ∷ [])) a in
        let same : length m' ≡ length m = ap (λ (x : Mem). length x) stored ∙ splice_length m b.address (b.value ∷ []) in
        record {
          pieces = k.0 ∙ g.pieces;
          proper = g.proper;
          fits = g.fits ∙ sym same;
          size = same ∙ g.size;
          wide = g.wide;
          room = omega (arith, g.room, sum);
          so_far = g.so_far;
          count = g.count;
          written = g.written;
          whole =
              g.whole
              ∙ ap (λ (es : List (Result Entry BadRecord)). after g.so_far (course Defined (events_of es) t m)) (first d)
              ∙ ap (after g.so_far) (course_store b.address b.value (events_of (entries (length m₀) l')) t m)
              ∙ ap (λ (x : Mem). after g.so_far (Rest (length m₀) l' t x)) (sym stored);
          bad = g.bad ∙ ap any_bad (first d);
        }

    -- it is a call
    pub going_calls : {c : declared.Call} {r : Outcome} {m' ns' : Mem} → Ok (Call c) ≡ entry_of (length m₀) x.now → Answers (call_of c) t m r m' → length m' ≡ length m
        → ns' ≡ splice ns (8 * answered) (numbers r.answer) → Going bs t₀ m₀ ns₀ s' (answered + 1) r.table m' ns'
    unfolding events_of any_bad all_numbers
    going_calls {c} {r} {m'} {ns'} d w same put =
        let one : List Answer = r.answer ∷ [] in
        let place : 8 * answered ≡ 0 + length (all_numbers g.so_far) = omega (arith, g.count, numbers_length g.so_far) in
        let ready = stays_ready (call_of c) t m w g.proper g.fits in
        record {
          pieces = k.0 ∙ g.pieces;
          proper = stays_proper (call_of c) t m w g.proper;
          fits = ready.size;
          size = same ∙ g.size;
          wide = ap (λ (x : Mem). length x) put ∙ splice_length ns (8 * answered) (numbers r.answer) ∙ g.wide;
          room = omega (arith, g.room, sum, n);
          so_far = g.so_far ++ one;
          count = omega (arith, g.count, length-append g.so_far one);
          written =
              put
              ∙ (λ i. splice (g.written i) (place i) (numbers r.answer))
              ∙ splice_join ns₀ 0 (all_numbers g.so_far) (numbers r.answer)
              ∙ ap (splice ns₀ 0) (sym (numbers_append g.so_far one));
          whole =
              g.whole
              ∙ ap (λ (es : List (Result Entry BadRecord)). after g.so_far (course Defined (events_of es) t m)) (first d)
              ∙ ap (after g.so_far) (course_call (call_of c) (events_of (entries (length m₀) l')) t m w)
              ∙ after_after g.so_far one (Rest (length m₀) l' r.table m');
          bad = g.bad ∙ ap any_bad (first d);
        }
