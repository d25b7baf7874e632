-- Laws of the table's records: what a changed record changes, and what it leaves.
-- Assumes nothing.
use mathlib.Core.Path.{◌≡◌, refl, ◌∙◌}
use Prim.Native.Nat.{ℕ, ◌-◌, ◌≤◌}
use native.Mathlib.Omega.{arith}
use lib.ListN.{length, length-set}
use lib.Seq.{get_or-set_same, get_or-set_other, set-get_or}
use Rattle.definition.specs.Types.{Endpoint, Slot, Table}
use Rattle.definition.specs.Table.{disabled, free, place, endpoint_of, slot_of, with_endpoint, with_slot, with_registers}

-- the arrays have their lengths, as those of every table that code holds
pub record Sized (t : Table) : Type 0 where
  pub slots : length t.slots ≡ 16
  pub endpoints : length t.endpoints ≡ 496

abbrev pub IsSlot : ℕ → Type 0
IsSlot id = (1 ≤ id) × (id ≤ 16)

abbrev pub IsEndpoint : ℕ → Type 0
IsEndpoint i = (1 ≤ i) × (i ≤ 31)

pub sized_endpoint : (t : Table) (id i : ℕ) (e : Endpoint) → Sized t → Sized (with_endpoint t id i e)
unfolding with_endpoint
sized_endpoint t id i e z =
    record { slots = z.slots; endpoints = length-set t.endpoints (place id i) e ∙ z.endpoints }

pub sized_slot : (t : Table) (id : ℕ) (s : Slot) → Sized t → Sized (with_slot t id s)
unfolding with_slot
sized_slot t id s z = record { slots = length-set t.slots (id - 1) s ∙ z.slots; endpoints = z.endpoints }

pub sized_registers : (t : Table) (limit dcbaap : ℕ) → Sized t → Sized (with_registers t limit dcbaap)
unfolding with_registers
sized_registers t limit dcbaap z = record { slots = z.slots; endpoints = z.endpoints }

-- ---- an endpoint's record

pub endpoint_here : (t : Table) (id i : ℕ) (e : Endpoint) → Sized t → IsSlot id → IsEndpoint i → endpoint_of (with_endpoint t id i e) id i ≡ e
unfolding endpoint_of with_endpoint
endpoint_here t id i e z s n = get_or-set_same t.endpoints (place id i) e disabled (omega (arith, z.endpoints, s.0, s.1, n.0, n.1))

-- another endpoint of the slot
pub endpoint_other : (t : Table) (id i j : ℕ) (e : Endpoint) → 1 ≤ i → 1 ≤ j → (j ≡ i → ⊥) → endpoint_of (with_endpoint t id i e) id j ≡ endpoint_of t id j
unfolding endpoint_of with_endpoint
endpoint_other t id i j e a b n = get_or-set_other t.endpoints (place id i) (place id j) e disabled (λ q. n (omega arith))

-- an endpoint of another slot
pub endpoint_elsewhere : (t : Table) (id i other j : ℕ) (e : Endpoint) → 1 ≤ id → 1 ≤ other → (other ≡ id → ⊥) → IsEndpoint i → IsEndpoint j
    → endpoint_of (with_endpoint t id i e) other j ≡ endpoint_of t other j
unfolding endpoint_of with_endpoint
endpoint_elsewhere t id i other j e a b n p q =
    get_or-set_other t.endpoints (place id i) (place other j) e disabled (λ h. n (omega (arith, p.0, p.1, q.0, q.1)))

pub endpoint_slot : (t : Table) (id : ℕ) (s : Slot) (other j : ℕ) → endpoint_of (with_slot t id s) other j ≡ endpoint_of t other j
unfolding endpoint_of with_slot
endpoint_slot t id s other j = refl

pub endpoint_registers : (t : Table) (limit dcbaap id i : ℕ) → endpoint_of (with_registers t limit dcbaap) id i ≡ endpoint_of t id i
unfolding endpoint_of with_registers
endpoint_registers t limit dcbaap id i = refl

-- a record stored back as it was
pub endpoint_back : (t : Table) (id i : ℕ) → with_endpoint t id i (endpoint_of t id i) ≡ t
unfolding endpoint_of with_endpoint
endpoint_back t id i = rw set-get_or

-- ---- a slot

pub slot_here : (t : Table) (id : ℕ) (s : Slot) → Sized t → IsSlot id → slot_of (with_slot t id s) id ≡ s
unfolding slot_of with_slot
slot_here t id s z n = get_or-set_same t.slots (id - 1) s free (omega (arith, z.slots, n.0, n.1))

pub slot_other : (t : Table) (id : ℕ) (s : Slot) (other : ℕ) → 1 ≤ id → 1 ≤ other → (other ≡ id → ⊥) → slot_of (with_slot t id s) other ≡ slot_of t other
unfolding slot_of with_slot
slot_other t id s other a b n = get_or-set_other t.slots (id - 1) (other - 1) s free (λ q. n (omega arith))

pub slot_endpoint : (t : Table) (id i : ℕ) (e : Endpoint) (other : ℕ) → slot_of (with_endpoint t id i e) other ≡ slot_of t other
unfolding slot_of with_endpoint
slot_endpoint t id i e other = refl

pub slot_registers : (t : Table) (limit dcbaap id : ℕ) → slot_of (with_registers t limit dcbaap) id ≡ slot_of t id
unfolding slot_of with_registers
slot_registers t limit dcbaap id = refl
