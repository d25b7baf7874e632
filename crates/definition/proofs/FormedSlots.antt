-- The register calls, Enable Slot, Disable Slot, reset of all slots and the calls that reach one endpoint give a proper table of a proper table,
-- and no 198.
-- Assumes nothing.
use mathlib.Core.Path.{◌≡◌, refl, sym, subst}
use mathlib.Core.Bool.{true, false}
use mathlib.Core.List.{List, [], ◌∷◌}
use Prim.Native.Nat.{ℕ, ◌+◌, ◌*◌, ◌%◌, ◌≤◌}
use native.Mathlib.Omega.{arith}
use borrow.Author.Tests.{leb-true}
use lib.Dec.{leb, eqb}
use Rattle.guest.specs.Bytes.{◌⊕◌, count}
use Rattle.guest.specs.Forms.{Gives}
use Rattle.guest.proofs.ListLaws.{All, more, count_all, those_all}
use Rattle.guest.proofs.FormLaws.{gives_choose, gives_bind, gives_then, gives_each}
use Rattle.definition.specs.Types.{Endpoint, Input, SlotState, Free, Enabled, Default, Addressed, Configured, Slot, Table}
use Rattle.definition.specs.Table.{slot_number, is_disabled, is_free, free, endpoint_of, slot_of, with_endpoint}
use Rattle.definition.specs.Steps.{column, step}
use Rattle.definition.specs.Walks.{begin, terminate_all}
use Rattle.definition.specs.Commands.{set_limit, set_dcbaap, enable_one, enable_slot, freeing, disable_slot, reset_all, endpoint_call}
use Rattle.definition.proofs.TableLaws.{IsSlot, IsEndpoint, slot_endpoint}
use Rattle.definition.proofs.FormedFacts.{clash, Proper, formed_limit, zero_disabled, ok_enabled, enabled_ok, Zeroes, InUse, Fits, slot_fits, fits_serve}
use Rattle.definition.proofs.FormedTables.{beside_same, beside_endpoint, closes, closes_slot, registers_proper}
use Rattle.definition.proofs.FormedWalks.{Kept, kept_stored, began, began_used, kept_used, First, Cleared, clears}
use Rattle.definition.proofs.FormedSteps.{Live, Lively, step_lively}
use Rattle.definition.proofs.FormedHeads.{Fine, formed_fine, lent_fine, slot_fine, endpoint_fine}

-- ---- registers, and Enable Slot

pub set_limit_fine : (n : ℕ) (t : Table) → Proper t → Gives Fine (set_limit n t)
unfolding set_limit Gives
set_limit_fine n t p =
    formed_fine t _ p (gives_choose Fine (leb n 16) _ _ (λ e. (λ q. omega arith, registers_proper p n t.dcbaap (leb-true _ _ e))) (λ e q. omega arith))

pub set_dcbaap_fine : (a : ℕ) (t : Table) → Proper t → Gives Fine (set_dcbaap a t)
unfolding set_dcbaap Gives
set_dcbaap_fine a t p = formed_fine t _ p (λ q. omega arith, registers_proper p t.limit a (formed_limit _ p.formed))

-- a slot whose state is Free has no endpoint
free_zeroes : (st : SlotState) (s : Slot) (t : Table) (id : ℕ) → eqb (slot_number st) 0 ≡ true → Fits st s t id → Zeroes id t
free_zeroes Free s t id e f = f.2
free_zeroes Enabled s t id e f = f.1
free_zeroes Default s t id e f = absurd (clash false e refl)
free_zeroes Addressed s t id e f = absurd (clash false e refl)
free_zeroes Configured s t id e f = absurd (clash false e refl)

-- the first free slot, if there is one, becomes Enabled
enable_one_fine : (t : Table) → Proper t → (is : List ℕ) → All (λ id. IsSlot id × (is_free (slot_of t id) ≡ true)) is → Gives Fine (enable_one t is)
unfolding Gives enable_one
enable_one_fine t p [] a = λ q. omega arith
enable_one_fine t p (id ∷ is) (more h a) =
    (λ q. omega arith, closes_slot p h.0 (beside_same id p) _ (refl, free_zeroes (slot_of t id).state (slot_of t id) t id h.1 (slot_fits p id h.0)))

pub enable_fine : (t : Table) → Proper t → Gives Fine (enable_slot t)
unfolding enable_slot
enable_fine t p =
    formed_fine t _ p
    (enable_one_fine t p _
    (those_all IsSlot (λ id. is_free (slot_of t id)) (count t.limit 1)
    (count_all IsSlot t.limit 1 (λ id l h. (l, omega (arith, formed_limit _ p.formed))))))

-- ---- Disable Slot, and reset of all slots

-- a slot is freed with its endpoints
freeing_proper : (id : ℕ) (t : Table) → Proper t → IsSlot id → Gives (λ w. Proper w.table) (freeing id t)
unfolding freeing Gives
freeing_proper id t p h =
    let base = (slot_of t id).base in
    gives_bind (λ w. Kept t id base (Cleared 32) w.table) (λ w. Proper w.table) (terminate_all id base (count 31 1) (begin t)) _
    (clears t id base h (begin t)
    (began p id base (Cleared 1) (fits_serve (slot_of t id).state (slot_of t id) t id (slot_fits p id h)) (λ i n l. absurd (omega arith))))
    (λ w k. closes_slot p h k.beside free (refl, refl, λ i n. k.more i n (omega arith)))

pub disable_fine : (id len : ℕ) (t : Table) → Proper t → Gives Fine (disable_slot id len t)
unfolding disable_slot Gives
disable_fine id len t p =
    slot_fine 11 t len id _ (λ q. omega arith) p (λ h e.
    gives_bind (λ w. Proper w.table) Fine (freeing id t) _ (freeing_proper id t p h) (λ w g. (λ q. omega arith, g)))

pub reset_all_fine : (len : ℕ) (t : Table) → Proper t → Gives Fine (reset_all len t)
unfolding reset_all Gives
reset_all_fine len t p =
    formed_fine t _ p (lent_fine t len _ (λ e.
    gives_bind Proper Fine _ _
    (gives_each IsSlot Proper (count 16 1) _ t (count_all IsSlot 16 1 (λ id a b. (a, omega arith))) p
    (λ id h u g. gives_bind (λ w. Proper w.table) Proper (freeing id u) _ (freeing_proper id u g h) (λ w k. k)))
    (λ u g. (λ q. omega arith, registers_proper g 0 0 (omega arith)))))

-- ---- calls that reach one endpoint

-- a slot with an enabled endpoint is in use, and fits still where it stays so
still_fits : (st : SlotState) (s : Slot) (t u : Table) (id i : ℕ) → IsEndpoint i → is_disabled (endpoint_of t id i) ≡ false
    → (InUse t.length s.base id t → InUse u.length s.base id u) → Fits st s t id → Fits st s u id
still_fits Free s t u id i n d g f = absurd (clash _ (zero_disabled (endpoint_of t id i) (f.2 i n)) d)
still_fits Enabled s t u id i n d g f = absurd (clash _ (zero_disabled (endpoint_of t id i) (f.1 i n)) d)
still_fits Default s t u id i n d g f = g f
still_fits Addressed s t u id i n d g f = g f
still_fits Configured s t u id i n d g f = g f

module _ (t : Table) (id i : ℕ) (p : Proper t) (h : IsSlot id) (n : IsEndpoint i) (d : is_disabled (endpoint_of t id i) ≡ false) where
  -- its context lies in memory, and its pointer is aligned
  here : (((slot_of t id).base ⊕ 32 * i) + 32 ≤ t.length) × ((endpoint_of t id i).pointer % 16 ≡ 0)
  here =
      ok_enabled t.length (slot_of t id).base i (endpoint_of t id i)
      (fits_serve (slot_of t id).state (slot_of t id) t id (slot_fits p id h) i n) d

  -- an enabled endpoint's record may be any live one
  endpoint_proper : (e : Endpoint) → Live e → Proper (with_endpoint t id i e)
  endpoint_proper e l =
      closes p (beside_endpoint (beside_same id p) h i n e)
      (subst (λ (r : Slot). Fits r.state r (with_endpoint t id i e) id) (sym (slot_endpoint t id i e id))
      (still_fits (slot_of t id).state (slot_of t id) t (with_endpoint t id i e) id i n d
      (λ u. kept_used u.room
      (kept_stored t id (slot_of t id).base h First First i n (λ j f q o. o) (began_used p id (slot_of t id).base u) e
      (enabled_ok t.length (slot_of t id).base i e l.enabled here.0 l.aligned) (λ q. l.enabled)))
      (slot_fits p id h)))

-- every input but Terminate, which is no call
pub endpoint_call_fine : (no_slot no_endpoint id i : ℕ) (input : Input) (len : ℕ) (t : Table) → (no_slot ≡ 198 → ⊥) → (no_endpoint ≡ 198 → ⊥)
    → (column input ≡ 4 → ⊥) → Proper t → Gives Fine (endpoint_call no_slot no_endpoint id i input len t)
unfolding endpoint_call Gives
endpoint_call_fine no_slot no_endpoint id i input len t a b c p =
    slot_fine no_slot t len id _ a p (λ h e.
    endpoint_fine no_endpoint t id i _ b (λ n d.
    gives_then Lively Fine (step (endpoint_of t id i) input ((slot_of t id).base ⊕ 32 * i)) _
    (step_lively (endpoint_of t id i) input ((slot_of t id).base ⊕ 32 * i) c (record { enabled = d; aligned = (here t id i p h n d).1 }))
    (λ r g. (g.0, endpoint_proper t id i p h n d r.endpoint g.1))
    (λ k q. q)))
