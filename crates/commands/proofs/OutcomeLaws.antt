-- How commands end: from what their parts promise to what the call promises.
-- Assumes nothing.
use mathlib.Core.Path.{◌≡◌, refl, sym, ap, ◌∙◌}
use mathlib.Core.Bool.{true, false}
use mathlib.Core.List.{[], ◌∷◌}
use Prim.Native.Nat.{ℕ, ◌+◌, ◌≤◌}
use native.Mathlib.Omega.{arith}
use lib.ListN.{length}
use Rattle.guest.specs.Bytes.{slot_state_byte, count}
use Rattle.guest.specs.Prog.{Mem, Prog, done, splice, Ran, run, bind, Result, ok, refuse}
use Rattle.guest.proofs.RunLaws.{run_bind, after, ends_value}
use Rattle.definition.specs.Table.{slot_of, with_slot, free}
use Rattle.definition.specs.Commands.{Told, context_state, on_slot, settled, finish, deconfigure, freeing, walked}
use Rattle.definition.specs.Calls.{told}
use Rattle.definition.specs.Rules.{Opened}
use Rattle.definition.proofs.FormedFacts.{Fits, InUse, formed_fits}
use Rattle.scan.proofs.OpeningLaws.{telling, OnSlot, on_slot_lem, meets_ok, meets_as}
use Rattle.definition.proofs.HeadLaws.{slot_opens}
use Rattle.walks.specs.Promises.{walk, Rooms, TerminatesAll}
use Rattle.walks.specs.declared.Ended.{Ended}
use Rattle.walks.proofs.RoomLaws.{formed_rooms}
use Rattle.commands.specs.Types.{SlotState, Free, Enabled, Default, Addressed, Configured, Slot, Table, Outcome}
use Rattle.commands.specs.Promises.{tallied, Carries, Settles, Based, is_settled}

-- ---- what a slot that was found has

pub opened_slot : {t : Table} {m : Mem} {id : ℕ} {s : Slot} → Opened t m id s → OnSlot t (length m) id s
opened_slot {t} {m} {id} o = on_slot_lem t (length m) id (record { formed = o.formed; size = o.size }) o.used

-- each enabled endpoint from lo on has its context in memory
pub opened_rooms : {t : Table} {m : Mem} {id : ℕ} {s : Slot} → Opened t m id s → (lo : ℕ) → 1 ≤ lo → Rooms t id s.base lo (length m)
opened_rooms {t} {m} {id} {s} o lo h =
    let f = opened_slot o in
    rw (← f.slot, ← o.size) (formed_rooms t o.formed id (f.low, f.high) lo h)

-- its slot fits
pub opened_fits : {t : Table} {m : Mem} {id : ℕ} {s : Slot} → Opened t m id s → Fits s.state s t id
opened_fits {t} {m} {id} {s} o =
    let f = opened_slot o in
    rw (← f.slot) (formed_fits t o.formed id (f.low, f.high))

-- ---- Addressed or Configured

in_use_lem : (st : SlotState) (s : Slot) (t : Table) (id : ℕ) → is_settled st ≡ true → Fits st s t id → InUse t.length s.base id t
in_use_lem Free s t id h f = let z : ◌≡◌ {A = ℕ} 0 1 = cc in absurd (omega arith)
in_use_lem Enabled s t id h f = let z : ◌≡◌ {A = ℕ} 0 1 = cc in absurd (omega arith)
in_use_lem Default s t id h f = f
in_use_lem Addressed s t id h f = f
in_use_lem Configured s t id h f = f

-- a settled slot's device context begins in memory
pub settled_based : {t : Table} {m : Mem} {id : ℕ} {s : Slot} → Opened t m id s → is_settled s.state ≡ true → Based id s.base (length m)
settled_based {t} {m} {id} {s} o h =
    let f = opened_slot o in
    let u = in_use_lem s.state s t id h (opened_fits o) in
    record { low = f.low; high = f.high; room = rw (← o.size) u.room }

pub settled_yes : (st : SlotState) (p : Prog (Result Told)) → is_settled st ≡ true → settled st p ≡ p
unfolding settled
settled_yes Free p h = let z : ◌≡◌ {A = ℕ} 0 1 = cc in absurd (omega arith)
settled_yes Enabled p h = let z : ◌≡◌ {A = ℕ} 0 1 = cc in absurd (omega arith)
settled_yes Default p h = let z : ◌≡◌ {A = ℕ} 0 1 = cc in absurd (omega arith)
settled_yes Addressed p h = refl
settled_yes Configured p h = refl

pub settled_no : (st : SlotState) (p : Prog (Result Told)) → is_settled st ≡ false → settled st p ≡ done (refuse 19)
unfolding settled
settled_no Free p h = refl
settled_no Enabled p h = refl
settled_no Default p h = refl
settled_no Addressed p h = let z : ◌≡◌ {A = ℕ} 0 1 = cc in absurd (omega arith)
settled_no Configured p h = let z : ◌≡◌ {A = ℕ} 0 1 = cc in absurd (omega arith)

-- ---- carried out

-- what a program that was carried out promises of its call
pub carried : (t : Table) {p : Prog (Result Told)} {m : Mem} {r : Outcome} {m' : Mem} → Carries p m 0 r m' → Settles p t m r m'
carried t c = meets_ok t c.ends

-- a program that runs as another is answered as it
pub settles_as : (t : Table) (p q : Prog (Result Told)) {m : Mem} {r : Outcome} {m' : Mem} → run p m 0 ≡ run q m 0 → Settles q t m r m' → Settles p t m r m'
settles_as t p q {m} e h =
    let f : Result Told → Prog Told = λ r. done (told t r) in
    let then : Ran (Result Told) → Ran Told = λ x. run (f x.value) x.memory x.stored in
    let k : run (telling t p) m 0 ≡ run (telling t q) m 0 = run_bind p f m 0 ∙ ap then e ∙ sym (run_bind q f m 0) in
    record { answer = rw k h.answer; table = rw k h.table; memory = rw k h.memory }

-- the slot's next state, and its state byte
pub finished : (id : ℕ) (s : Slot) (next : SlotState) (t : Table) (l e p n : ℕ) (m : Mem)
    → Carries (finish id s next (walk t l e p)) m n
    (tallied (with_slot t id (record { state = next; base = s.base; entry = s.entry })) (record { launched = l; terminated = e; port = p; stored = n + 1 }))
    (splice m (s.base + 15) (slot_state_byte (context_state next) ∷ []))
unfolding finish run
finished id s next t l e p n m = record { ends = record { ends = refl } }

-- endpoints 2 to 31 terminated, and finished
pub deconfigured : (id : ℕ) (s : Slot) (next : SlotState) (t : Table) {m : Mem} {w : Ended} {m₁ : Mem} {r : Outcome} {m₂ : Mem}
    → TerminatesAll id s.base (count 30 2) 30 t m w m₁ → Carries (finish id s next (walk w.table 0 w.terminated 0)) m₁ w.stored r m₂
    → Carries (deconfigure id s next t) m 0 r m₂
unfolding deconfigure
deconfigured id s next t d e = record { ends = record { ends = after (finish id s next) d.ends ∙ e.ends.ends } }

-- ---- a call on a slot that was found

-- its own part was answered
pub opened_settles : (absent : ℕ) (t : Table) (id : ℕ) (f : Slot → Prog (Result Told)) {m : Mem} {s : Slot} {r : Outcome} {m' : Mem} → Opened t m id s
    → Settles (f s) t m r m' → Settles (on_slot absent t (length m) id f) t m r m'
opened_settles absent t id f {m} {s} o h = meets_as t (slot_opens absent t id f m s o) h

-- ---- Disable Slot

pub disabled_slot : (t : Table) (id : ℕ) (s : Slot) {m : Mem} {w : Ended} {m' : Mem} → slot_of t id ≡ s
    → TerminatesAll id s.base (count 31 1) 31 t m w m'
    → Carries (bind (freeing id t) λ v. done (ok (walked v, v.table))) m 0
    (tallied (with_slot w.table id free) (record { launched = 0; terminated = w.terminated; port = 0; stored = w.stored })) m'
unfolding freeing run
disabled_slot t id s {m} {w} {m'} e d =
    let f = rw (← e) at d.ends in
    record { ends = ends_value (λ v. ok (walked v, v.table)) (ends_value (λ v. record { table = with_slot v.table id free; launched = v.launched; terminated = v.terminated; port = v.port }) f) }
