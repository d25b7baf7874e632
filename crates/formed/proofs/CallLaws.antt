-- A call on a slot: how it is refused, and what it has once its slot is found.
-- Assumes nothing.
use mathlib.Core.Path.{◌≡◌, refl, sym, ap, ◌∙◌}
use mathlib.Core.Bool.{Bool, true, false}
use Prim.Native.Nat.{ℕ, ◌≤◌}
use borrow.Author.Tests.{eq-eqb}
use lib.Dec.{eqb}
use lib.ListN.{length}
use Rattle.guest.specs.Prog.{Mem, Prog, done, Result, refuse}
use Rattle.guest.proofs.RunLaws.{choose_yes}
use Rattle.definition.specs.declared.Input.{Input}
use Rattle.definition.specs.declared.Slot.{Slot}
use Rattle.definition.specs.declared.Table.{Table}
use Rattle.std.specs.Prelude.{Option, Some, None, Ok, Err}
use Rattle.definition.specs.declared.Refusal.{Refusal}
use Rattle.definition.specs.Refusals.{code_of}
use Rattle.definition.specs.declared.Outcome.{Outcome}
use Rattle.definition.specs.Table.{slot_of, lookup, well_formed}
use Rattle.definition.specs.Commands as commands
use Rattle.definition.specs.Commands.{Told, formed, lent, found, on_slot, endpoint_call}
use Rattle.definition.specs.Calls.{disable_slot, address_device, configure_endpoint, evaluate_context, reset_device, meaning}
use Rattle.definition.specs.Rules.{Opened}
use Rattle.definition.proofs.HeadLaws.{slot_opens}
use Rattle.scan.specs.declared.Head.{Head}
use Rattle.scan.specs.Heads.{Begun, checked, head_for, refusal}
use Rattle.scan.specs.Records.{first_of}
use Rattle.scan.proofs.ScanLaws.{first_is, record_is}
use Rattle.scan.proofs.OpeningLaws.{refuses_at_once, meets_as, is_lent, refuses_head, refuses_absent, head_found, head_record, opened_slot, on_slot_lem}
use Rattle.commands.specs.Promises.{Settles, reaching}
use Rattle.formed.specs.Promises.{Ready}

-- ---- which programs are for a slot

-- p is for slot id: `absent` is its code where there is none, `part` what it does with one
pub record Slotted (p : ℕ → Table → Prog (Result Told)) (id absent : ℕ) : Type 0 where
  pub part : ℕ → Table → Slot → Prog (Result Told)
  pub is : (len : ℕ) (t : Table) → p len t ≡ on_slot absent t len id (part len t)

pub disables : (id : ℕ) → Slotted (meaning (disable_slot id)) id 11
unfolding meaning commands.disable_slot
disables id = record { part = _; is = λ len t. refl }

pub addresses : (id P : ℕ) (bsr : Bool) → Slotted (meaning (address_device id P bsr)) id 11
unfolding meaning commands.address_device
addresses id P bsr = record { part = _; is = λ len t. refl }

pub configures : (id P : ℕ) (dc : Bool) → Slotted (meaning (configure_endpoint id P dc)) id 11
unfolding meaning commands.configure_endpoint
configures id P true = record { part = _; is = λ len t. refl }
configures id P false = record { part = _; is = λ len t. refl }

pub evaluates : (id P : ℕ) → Slotted (meaning (evaluate_context id P)) id 11
unfolding meaning commands.evaluate_context
evaluates id P = record { part = _; is = λ len t. refl }

pub resets : (id : ℕ) → Slotted (meaning (reset_device id)) id 11
unfolding meaning commands.reset_device
resets id = record { part = _; is = λ len t. refl }

-- what the calls that reach one endpoint share
pub reaches : (no_slot no_endpoint id i : ℕ) (input : Input) → Slotted (endpoint_call no_slot no_endpoint id i input) id no_slot
unfolding endpoint_call
reaches no_slot no_endpoint id i input = record { part = λ len t s. reaching no_endpoint id i input s t; is = λ len t. refl }

-- ---- the refusals

module _ {p : ℕ → Table → Prog (Result Told)} {id absent : ℕ} (k : Slotted p id absent) {t : Table} {m : Mem} where
  module _ (i : ℕ) {r : Begun Head} (e : r ≡ head_for t (length m) id i) where
    -- 198 or 194
    pub head_refused : {x : Refusal} → r ≡ Err x → Settles (p (length m) t) t m (refusal t (code_of x)) m
    head_refused z = meets_as t (k.is (length m) t) (refuses_head t (length m) id i e absent (k.part (length m) t) m z)

    pub absent_refused : {h : Head} → r ≡ Ok h → h.found ≡ None → Settles (p (length m) t) t m (refusal t absent) m
    absent_refused z w = meets_as t (k.is (length m) t) (refuses_absent t (length m) id i e absent (k.part (length m) t) m z w)

  pub ready_refused : Ready t m → {l : Option Slot} → l ≡ lookup t id → l ≡ None → Settles (p (length m) t) t m (refusal t absent) m
  unfolding on_slot formed lent
  ready_refused r e w =
      refuses_at_once t m
      (k.is (length m) t
      ∙ choose_yes (well_formed t) _ _ r.formed
      ∙ choose_yes (eqb t.length (length m)) _ _ (eq-eqb _ _ r.size)
      ∙ ap (λ (l : Option Slot). found l (done (refuse absent)) (k.part (length m) t)) (sym e ∙ w))

-- ---- a table that was checked

pub ready_checked : {t : Table} {m : Mem} {r : Begun (Unit {0})} {x : Unit {0}} → r ≡ checked t (length m) → r ≡ Ok x → Ready t m
ready_checked {t} {m} e z = let l = is_lent t (length m) e z in record { formed = l.formed; size = l.size }

-- ---- a slot that was found

pub head_opens : {t : Table} {m : Mem} {id : ℕ} (i : ℕ) {r : Begun Head} {h : Head} {s : Slot} → r ≡ head_for t (length m) id i → r ≡ Ok h → h.found ≡ Some s → Opened t m id s
head_opens {t} {m} {id} i e z w =
    let o = opened_slot t (length m) id i e z w in
    record { formed = o.formed; size = o.size; used = head_found t (length m) id i e z ∙ w }

-- with the record of its endpoint 1
pub head_first : (t : Table) (len id : ℕ) {r : Begun Head} {h : Head} {s : Slot} → r ≡ head_for t len id 1 → r ≡ Ok h → h.found ≡ Some s → h.endpoint ≡ first_of t id
head_first t len id e z w = head_record t len id 1 e z w ∙ record_is t id 1 refl ∙ first_is t id

pub ready_opens : {t : Table} {m : Mem} {id : ℕ} {l : Option Slot} {s : Slot} → Ready t m → l ≡ lookup t id → l ≡ Some s → Opened t m id s
ready_opens r e w = record { formed = r.formed; size = r.size; used = sym e ∙ w }

-- what `reach` asks
pub reach_ready : {t : Table} {m : Mem} {id : ℕ} {s : Slot} → Opened t m id s
    → (1 ≤ id) × (id ≤ 16) × (well_formed t ≡ true) × (t.length ≡ length m) × (slot_of t id ≡ s)
reach_ready {t} {m} {id} o =
    let f = on_slot_lem t (length m) id (record { formed = o.formed; size = o.size }) o.used in
    (f.low, f.high, o.formed, o.size, f.slot)

-- its endpoint was reached
pub reached : (no_slot no_endpoint i : ℕ) (input : Input) {id : ℕ} {t : Table} {m : Mem} {s : Slot} {r : Outcome} {m' : Mem}
    → Opened t m id s → Settles (reaching no_endpoint id i input s t) t m r m' → Settles (endpoint_call no_slot no_endpoint id i input (length m) t) t m r m'
unfolding endpoint_call
reached no_slot no_endpoint i input {id = id} {t = t} {m = m} {s = s} o h = meets_as t (slot_opens no_slot t id _ m s o) h
