-- Laws of the walks: a step of one record is a step of the walk.
-- Assumes nothing.
use mathlib.Core.Path.{◌≡◌, refl, ap, ◌∙◌}
use mathlib.Core.Bool.{Bool, true, false, cond}
use mathlib.Core.List.{List, ◌∷◌}
use Prim.Native.Nat.{ℕ, zero, suc, ◌+◌, ◌-◌, ◌*◌, ◌^◌, ◌≤◌, ◌<◌}
use native.Mathlib.Nat.{one-mul, zero-mul, add-zero}
use native.Mathlib.Omega.{arith}
use lib.ListN.{length, length-set, set}
use lib.Seq.{get_or-set_other, set-get_or}
use lib.Pow.{pow_pos, pow_mono, pow-add}
use Rattle.guest.specs.Bytes.{◌⊕◌, count, those, bit, set_bits}
use Rattle.guest.proofs.BitLaws.{flag_set, flag_clear, flags_done}
use Rattle.guest.specs.Prog.{Mem, Prog, done, bind, Ends, all}
use Rattle.guest.proofs.ListLaws.{those_yes, all_at}
use Rattle.guest.proofs.RunLaws.{ends_from, ends_value}
use Rattle.guest.proofs.LoopLaws.{Loop, loop_begins, loop_goes, loop_skips, loop_ends}
use Rattle.definition.specs.declared.Endpoint.{Endpoint}
use Rattle.definition.specs.declared.Table.{Table}
use Rattle.definition.specs.Table.{is_disabled, disabled, endpoint_of, with_endpoint}
use Rattle.definition.specs.Walks.{Walk, begin, ended, terminate, terminate_all}
use Rattle.definition.proofs.TableLaws.{IsSlot, IsEndpoint}
use Rattle.endpoint.specs.Promises.{Terminates}
use Rattle.endpoint.specs.declared.Terminated.{Terminated}
use Rattle.endpoint.proofs.StepLaws.{passed_over}
use Rattle.walks.specs.declared.Marks.{Marks}
use Rattle.walks.specs.Promises.{walk, record_of, with_records, RoomsIn, EndsFlagged, TerminatesAll}
use Rattle.walks.proofs.RecordLaws.{records_of, records_back, records_read, records_write}

-- ---- masks

-- a bit that is set once or not at all
mask_bit : (i one : ℕ) → one ≤ 1 → one * 2 ^ i ≤ 2 ^ i
mask_bit i zero o = rw zero-mul (omega arith)
mask_bit i (suc zero) o = rw one-mul (omega arith)
mask_bit i (suc (suc n)) o = absurd (omega arith)

-- a mask below 2 ^ i, and bit i or not, is below 2 ^ (i + 1)
pub mask_next : (i mask one : ℕ) → mask < 2 ^ i → one ≤ 1 → mask + one * 2 ^ i < 2 ^ (i + 1)
mask_next i mask one h o =
    let e : 2 ^ (i + 1) ≡ 2 ^ i * 2 ^ 1 = pow-add 2 i 1 in
    omega (arith, mask_bit i one o)

-- ---- from a record to the walk

-- a program and then a value made of what it gives, after s bytes
pub ends_then : {A B : Type 0} {p : Prog A} (f : A → B) {m : Mem} {x : A} {m' : Mem} {n : ℕ} → Ends p m 0 x m' n → (s : ℕ)
    → Ends (bind p λ y. done (f y)) m s (f x) m' (s + n)
ends_then f e s = ends_value f (ends_from e s)

ended_bit : (b : Bool) (i one : ℕ) → one ≡ cond b 0 1 → cond b 0 (2 ^ i) ≡ one * 2 ^ i
ended_bit true i one e = rw (e, zero-mul)
ended_bit false i one e = rw (e, one-mul)

-- a record terminated, and stored back: its bit is the count of bytes stored
pub terminate_one : (id base i : ℕ) (w : Walk) {m : Mem} {r : Terminated} {m' : Mem} → Terminates (endpoint_of w.table id i) (base ⊕ 32 * i) m r m' → (s : ℕ)
    → Ends (terminate id base i w) m s
    (walk (with_endpoint w.table id i r.endpoint) w.launched (w.terminated + r.stored * 2 ^ i) w.port) m' (s + r.stored)
unfolding terminate
terminate_one id base i w {r = r} d s =
    let e = endpoint_of w.table id i in
    rw (← ended_bit (is_disabled e) i r.stored d.count) (ends_then (λ f. ended id i e f w) d.ends s)

-- ---- terminations on their way

-- of a slot's records, whichever slot's they are, the flagged ones from i on are left; mask and count are those so far
pub record Ending (base lo flags : ℕ) (es₀ : List Endpoint) (m₀ : Mem) (i : ℕ) (es : List Endpoint) (mask : ℕ) (m : Mem) (s : ℕ) : Type 0 where
  pub low : lo ≤ i
  pub high : i ≤ 32
  pub memory : length m ≡ length m₀
  pub size : length es ≡ 31
  pub loop : (t : Table) (id : ℕ) → IsSlot id → length t.endpoints ≡ 496
      → Loop (terminate id base) (set_bits (32 - lo) lo flags) (begin (with_records t id es₀)) m₀ 0 (set_bits (32 - i) i flags) (walk (with_records t id es) 0 mask 0) m s
  pub fits : mask < 2 ^ i
  pub few : s + lo ≤ i
  pub rooms : RoomsIn es base i (length m₀)

pub ending_begins : (base lo flags : ℕ) (es : List Endpoint) (m : Mem) → lo ≤ 32 → length es ≡ 31 → RoomsIn es base lo (length m)
    → Ending base lo flags es m lo es 0 m 0
ending_begins base lo flags es m h z r =
    record {
      low = omega arith;
      high = h;
      memory = refl;
      size = z;
      loop = λ t id n l. loop_begins (terminate id base) (set_bits (32 - lo) lo flags) (begin (with_records t id es)) m 0;
      fits = pow_pos lo;
      few = omega arith;
      rooms = r;
    }

module _ {base lo flags : ℕ} {es₀ : List Endpoint} {m₀ : Mem} {i : ℕ} {es : List Endpoint} {mask : ℕ} {m : Mem} {s : ℕ} where
  -- endpoint i is terminated
  ending_goes : Ending base lo flags es₀ m₀ i es mask m s → 1 ≤ lo → i < 32 → bit flags i ≡ true → {r : Terminated} {m' : Mem}
      → Terminates (record_of es i) (base ⊕ 32 * i) m r m' → length m' ≡ length m
      → Ending base lo flags es₀ m₀ (i + 1) (set es (i - 1) r.endpoint) (mask + r.stored * 2 ^ i) m' (s + r.stored)
  ending_goes g one l on {r} d n =
      let h : IsEndpoint i = (omega (arith, g.low), omega arith) in
      record {
        low = omega (arith, g.low);
        high = omega arith;
        memory = n ∙ g.memory;
        size = length-set es (i - 1) r.endpoint ∙ g.size;
        loop =
            λ t id k z.
            rw (← records_write t id z k es g.size i r.endpoint h)
            (loop_goes (terminate id base) (g.loop t id k z) (flag_set 32 i flags l on)
            (terminate_one id base i (walk (with_records t id es) 0 mask 0) (rw (records_read t id z k es g.size i h) d) s) n);
        fits = mask_next i mask r.stored g.fits d.few;
        few = omega (arith, g.few, d.few);
        rooms =
            λ j a b.
            rw (get_or-set_other es (i - 1) (j - 1) r.endpoint disabled (λ q. omega (arith, h.0)))
            (g.rooms j (omega arith) b);
      }

  -- it was enabled: its bit is marked
  pub ending_marks : Ending base lo flags es₀ m₀ i es mask m s → 1 ≤ lo → i < 32 → bit flags i ≡ true → is_disabled (record_of es i) ≡ false
      → {r : Terminated} {m' : Mem} → Terminates (record_of es i) (base ⊕ 32 * i) m r m' → length m' ≡ length m
      → Ending base lo flags es₀ m₀ (i + 1) (set es (i - 1) r.endpoint) (mask + 2 ^ i) m' (s + r.stored)
  ending_marks g one l on d {r} e n =
      let once : r.stored ≡ 1 = rw d at e.count in
      let marks : r.stored * 2 ^ i ≡ 2 ^ i = rw (once, one-mul) in
      rw marks at (ending_goes g one l on e n)

  -- it is passed by
  pub ending_skips : Ending base lo flags es₀ m₀ i es mask m s → i < 32 → bit flags i ≡ false → Ending base lo flags es₀ m₀ (i + 1) es mask m s
  ending_skips g l off =
      let p : 2 ^ i ≤ 2 ^ (i + 1) = pow_mono {i = i} {j = i + 1} (omega arith) in
      record {
        low = omega (arith, g.low);
        high = omega arith;
        memory = g.memory;
        size = g.size;
        loop = λ t id k z. loop_skips (terminate id base) (g.loop t id k z) (flag_clear 32 i flags l off);
        fits = omega (arith, g.fits);
        few = omega (arith, g.few);
        rooms = λ j a b. g.rooms j (omega arith) b;
      }

  -- it is disabled, and passed over: the step of the walk leaves all as it was
  pub ending_passes : Ending base lo flags es₀ m₀ i es mask m s → 1 ≤ lo → i < 32 → is_disabled (record_of es i) ≡ true
      → Ending base lo flags es₀ m₀ (i + 1) es mask m s
  ending_passes g one l d = by (bit flags i) refl
    where
      by : (b : Bool) → bit flags i ≡ b → Ending base lo flags es₀ m₀ (i + 1) es mask m s
      by true on = rw (set-get_or, zero-mul, add-zero mask, add-zero s) at (ending_goes g one l on (passed_over (base ⊕ 32 * i) d) refl)
      by false off = ending_skips g l off

-- none is left
pub ending_ends : {base lo flags : ℕ} {es₀ : List Endpoint} {m₀ : Mem} {i : ℕ} {es : List Endpoint} {r : Marks} {m : Mem}
    → Ending base lo flags es₀ m₀ i es r.mask m r.stored → 32 ≤ i → EndsFlagged base lo flags es₀ m₀ r es m
unfolding terminate_all
ending_ends {base} {lo} {flags} {i = i} g e =
    let p : 2 ^ i ≤ 2 ^ 32 = pow_mono {i = i} {j = 32} g.high in
    record {
      ends = λ t id a b z. loop_ends (terminate id base) (g.loop t id (a, b) z) (flags_done 32 i flags e);
      few = omega (arith, g.few, g.high, g.low);
      fits = omega (arith, g.fits);
    }

-- ---- the table whose records they are

-- all thirty-two flags are set
all_set : (n i : ℕ) → i + n ≤ 32 → set_bits n i (2 ^ 32 - 1) ≡ count n i
unfolding those count all
all_set zero i h = refl
all_set (suc n) i h =
    those_yes (bit (2 ^ 32 - 1)) i (count n (i + 1)) (all_at (bit (2 ^ 32 - 1)) 32 0 refl i (omega arith) (omega arith))
    ∙ ap (λ is. i ∷ is) (all_set n (i + 1) (omega arith))

-- the walk of the slot's records is the walk of the slot
pub ended_flagged : (t : Table) (id base lo flags : ℕ) {m : Mem} {r : Marks} {es : List Endpoint} {m' : Mem} → IsSlot id → length t.endpoints ≡ 496
    → EndsFlagged base lo flags (records_of t id) m r es m'
    → TerminatesAll id base (set_bits (32 - lo) lo flags) (32 - lo) t m (record { table = with_records t id es; terminated = r.mask; stored = r.stored }) m'
ended_flagged t id base lo flags n z d =
    record { ends = rw (records_back t id z n) at (d.ends t id n.0 n.1 z); few = d.few; fits = d.fits }

pub ended_from : (t : Table) (id base lo : ℕ) {m : Mem} {r : Marks} {es : List Endpoint} {m' : Mem} → IsSlot id → lo ≤ 32 → length t.endpoints ≡ 496
    → EndsFlagged base lo (2 ^ 32 - 1) (records_of t id) m r es m'
    → TerminatesAll id base (count (32 - lo) lo) (32 - lo) t m (record { table = with_records t id es; terminated = r.mask; stored = r.stored }) m'
ended_from t id base lo n h z d =
    rw (all_set (32 - lo) lo (omega arith)) at (ended_flagged t id base lo (2 ^ 32 - 1) n z d)
