-- Address Device, Configure Endpoint, Evaluate Context and Reset Device give a proper table of a proper table, and no 198.
-- Assumes nothing.
use mathlib.Core.Path.{◌≡◌}
use mathlib.Core.Bool.{Bool, true, false}
use Prim.Native.Nat.{ℕ, ◌+◌, ◌*◌, ◌≤◌}
use native.Mathlib.Omega.{arith}
use Rattle.guest.specs.Bytes.{◌⊕◌, number, bit, count, set_bits}
use Rattle.guest.specs.Prog.{Prog, Result, and_then}
use Rattle.guest.specs.Forms.{Gives}
use Rattle.guest.proofs.ListLaws.{All, all_map, count_all, those_all}
use Rattle.guest.proofs.FormLaws.{gives_need, gives_bind, gives_then, gives_every}
use Rattle.definition.specs.Types.{Endpoint, SlotState, Free, Enabled, Default, Addressed, Configured, Slot, Table}
use Rattle.definition.specs.Table.{slot_of}
use Rattle.definition.specs.Walks.{Walk, begin, terminate, terminate_all, copy_launch}
use Rattle.definition.specs.Commands.{Told, context_check, copy_contexts, Plan, plan, carry_out, address_device, finish, deconfigure, need_contexts, drop_and_add, reconfigure, configure_endpoint, evaluate_context, reset_device}
use Rattle.definition.proofs.TableLaws.{IsSlot}
use Rattle.definition.proofs.FormedFacts.{Proper, formed_length, zero_ok, Zeroes, InUse, Fits, slot_fits}
use Rattle.definition.proofs.FormedTables.{closes_slot}
use Rattle.definition.proofs.FormedWalks.{Kept, began, began_used, kept_used, terminate_kept, launch_kept, First, Second, terminates_kept, adds_kept}
use Rattle.definition.proofs.FormedHeads.{Fine, slot_fine, settled_slot_fine, Shows, shows_ok, shows_refuse, Plain, context_plain}

-- ---- Address Device

-- a state past Enabled: its slot fits where it is in use
abbrev Later : SlotState → Type 0
Later st = (s : Slot) (u : Table) (id : ℕ) → InUse u.length s.base id u → Fits st s u id

-- nothing more is asked
abbrev Any : ℕ → Endpoint → Type 0
Any j e = Unit

-- the copies and the launch of endpoint 1 leave a slot in use
copy_fine : (t : Table) (id c base : ℕ) (next : SlotState) (dcbaa_entry : ℕ) (w : Walk) → Proper t → IsSlot id → base + 64 ≤ t.length → Later next
    → Kept t id base Any w.table → Gives Fine (copy_contexts id c base next dcbaa_entry w)
unfolding copy_contexts Gives
copy_fine t id c base next dcbaa_entry w p s h l k = λ context.
    gives_bind (λ v. Kept t id base First v.table) Fine (copy_launch id base (c + 32) 1 w) _
    (launch_kept t id base s Any First 1 (omega arith, omega arith) (λ j f q o r. absurd (q r)) (omega (arith, formed_length _ p.formed)) (λ e d q. d) (c + 32) w k)
    (λ v g. (λ q. omega arith, closes_slot p s g.beside _ (l _ v.table id (kept_used h g))))

-- each plan that the state allows
carry_out_fine : (len P : ℕ) (t : Table) (id : ℕ) (s : Slot) (st : SlotState) (bsr : Bool) → Proper t → IsSlot id → t.length ≡ len → Fits st s t id
    → Gives Fine (carry_out len P t id s (plan st bsr))
unfolding plan carry_out Gives
carry_out_fine len P t id s st bsr p h e f = by st bsr f
  where
    -- from Enabled: the base is read
    fresh : (next : SlotState) → Zeroes id t → Later next → Gives Fine (carry_out len P t id s (Plan.fresh next))
    fresh next z l =
        gives_need Fine len s.entry 8 _ (λ q. omega arith) (λ _ base.
        gives_need Fine len (P ⊕ 32) 64 _ (λ q. omega arith) (λ _.
        gives_need Fine len (number base) 64 _ (λ q. omega arith) (λ r.
        copy_fine t id (P ⊕ 32) (number base) next s.entry (begin t) p h (omega arith) l
        (began p id (number base) Any (λ i n. zero_ok _ (number base) i _ (z i n)) (λ i n. tt)))))

    -- from Default: endpoint 1 is terminated
    again : InUse t.length s.base id t → Gives Fine (carry_out len P t id s (Plan.again Addressed))
    again u =
        gives_need Fine len (P ⊕ 32) 64 _ (λ q. omega arith) (λ _.
        gives_need Fine len s.base 64 _ (λ q. omega arith) (λ _.
        gives_bind (λ w. Kept t id s.base Any w.table) Fine (terminate id s.base 1 (begin t)) _
        (terminate_kept t id s.base h Any Any 1 (omega arith, omega arith) (λ j f q o. tt) (λ d z. tt) (begin t)
        (began p id s.base Any u.serve (λ i n. tt)))
        (λ w k. copy_fine t id (P ⊕ 32) s.base Addressed s.entry w p h u.room (λ s u id g. g) k)))

    by : (st : SlotState) (bsr : Bool) → Fits st s t id → Gives Fine (carry_out len P t id s (plan st bsr))
    by Free bsr f = λ q. omega arith
    by Enabled true f = fresh Default f.1 (λ s u id g. g)
    by Enabled false f = fresh Addressed f.1 (λ s u id g. g)
    by Default true f = λ q. omega arith
    by Default false f = again f
    by Addressed bsr f = λ q. omega arith
    by Configured bsr f = λ q. omega arith

-- past the context check
checked_fine : (accepts : ℕ → Bool) (len P : ℕ) (f : ℕ → Prog (Result Told)) → ((adds : ℕ) → Gives Fine (f adds))
    → Gives Fine (and_then (context_check accepts len P) f)
checked_fine accepts len P f g = gives_then Plain Fine (context_check accepts len P) f (context_plain accepts len P) (λ adds _. g adds) (λ c q. q)

pub address_fine : (accepts : ℕ → Bool) (id P : ℕ) (bsr : Bool) (len : ℕ) (t : Table) → Proper t → Gives Fine (address_device accepts id P bsr len t)
unfolding address_device
address_fine accepts id P bsr len t p =
    slot_fine 11 t len id _ (λ q. omega arith) p (λ h e.
    checked_fine accepts len P _ (λ adds. carry_out_fine len P t id (slot_of t id) (slot_of t id).state bsr p h e (slot_fits p id h)))

-- ---- Configure Endpoint, Reset Device

-- the slot goes to the next state
finish_fine : (t : Table) (id : ℕ) (s : Slot) (next : SlotState) (w : Walk) → Proper t → IsSlot id → s.base + 64 ≤ t.length → Later next
    → Kept t id s.base First w.table → Gives Fine (finish id s next w)
unfolding finish Gives
finish_fine t id s next w p h r l k = (λ q. omega arith, closes_slot p h k.beside _ (l _ w.table id (kept_used r k)))

-- every endpoint past the first is terminated
deconfigure_fine : (t : Table) (id : ℕ) (s : Slot) (next : SlotState) → Proper t → IsSlot id → Later next → InUse t.length s.base id t
    → Gives Fine (deconfigure id s next t)
unfolding deconfigure
deconfigure_fine t id s next p h l u =
    gives_bind (λ w. Kept t id s.base First w.table) Fine _ (finish id s next)
    (terminates_kept t id s.base h (count 30 2) (count_all Second 30 2 (λ i a b. (a, omega arith))) (begin t) (began_used p id s.base u))
    (λ w k. finish_fine t id s next w p h u.room l k)

-- the flags of 2 to 31 name endpoints past the first
flags_second : (x : ℕ) → All Second (set_bits 30 2 x)
flags_second x = all_map (λ i h. h.0) (those_all Second (bit x) (count 30 2) (count_all Second 30 2 (λ i a b. (a, omega arith))))

-- drops, then adds of contexts that lie in memory
reconfigure_fine : (accepts : ℕ → Bool) (id P : ℕ) (s : Slot) (len : ℕ) (t : Table) → Proper t → IsSlot id → t.length ≡ len
    → InUse t.length s.base id t → Gives Fine (reconfigure accepts id P s len t)
unfolding reconfigure drop_and_add need_contexts Gives
reconfigure_fine accepts id P s len t p h e u =
    checked_fine accepts len P _ (λ adds.
    gives_need Fine len P 4 _ (λ q. omega arith) (λ _ drops.
    gives_every Inside Fine (set_bits 30 2 adds) (need_contexts len P s.base) _ needed (λ a.
    gives_bind Way Fine (drop_and_add id P s.base (set_bits 30 2 (number drops)) (set_bits 30 2 adds) (begin t)) _
    (gives_bind Way Way (terminate_all id s.base (set_bits 30 2 (number drops)) (begin t)) _
    (terminates_kept t id s.base h (set_bits 30 2 (number drops)) (flags_second (number drops)) (begin t) (began_used p id s.base u))
    (λ w k. adds_kept t id s.base h P (set_bits 30 2 adds) (flags_second adds) a w k))
    (λ v g. finish_fine t id s Configured v p h u.room (λ s u id g. g) g))))
  where
    Way : Walk → Type 0
    Way w = Kept t id s.base First w.table

    Inside : ℕ → Type 0
    Inside i = (s.base ⊕ 32 * i) + 32 ≤ t.length

    needed : (i : ℕ) → Gives (Shows (Inside i)) (need_contexts len P s.base i)
    needed i =
        gives_need (Shows (Inside i)) len (P ⊕ 32 * (i + 1)) 32 _ (shows_refuse _ 193 (λ q. omega arith)) (λ _.
        gives_need (Shows (Inside i)) len (s.base ⊕ 32 * i) 32 _ (shows_refuse _ 193 (λ q. omega arith)) (λ r. shows_ok (omega arith)))

pub configure_fine : (accepts : ℕ → Bool) (id P : ℕ) (dc : Bool) (len : ℕ) (t : Table) → Proper t → Gives Fine (configure_endpoint accepts id P dc len t)
unfolding configure_endpoint
configure_fine accepts id P true len t p =
    settled_slot_fine t len id (λ s. deconfigure id s Addressed t) p (λ h e u. deconfigure_fine t id (slot_of t id) Addressed p h (λ s u id g. g) u)
configure_fine accepts id P false len t p =
    settled_slot_fine t len id (λ s. reconfigure accepts id P s len t) p (λ h e u. reconfigure_fine accepts id P (slot_of t id) len t p h e u)

pub reset_device_fine : (id len : ℕ) (t : Table) → Proper t → Gives Fine (reset_device id len t)
unfolding reset_device
reset_device_fine id len t p =
    settled_slot_fine t len id (λ s. deconfigure id s Default t) p (λ h e u. deconfigure_fine t id (slot_of t id) Default p h (λ s u id g. g) u)

-- ---- Evaluate Context

pub evaluate_fine : (accepts : ℕ → Bool) (id P len : ℕ) (t : Table) → Proper t → Gives Fine (evaluate_context accepts id P len t)
unfolding evaluate_context Gives
evaluate_fine accepts id P len t p =
    slot_fine 11 t len id _ (λ q. omega arith) p (λ h e. checked_fine accepts len P _ (λ adds. (λ q. omega arith, p)))
