-- Proper tables from proper tables: registers changed, or one slot and its records.
-- Assumes nothing.
use mathlib.Core.Path.{◌≡◌, refl, sym, ◌∙◌, subst}
use Prim.Native.Nat.{ℕ, ◌≤◌}
use native.Mathlib.Omega.{arith}
use native.Mathlib.Decide.{ℕ_discrete}
use Rattle.definition.specs.Types.{Endpoint, SlotState, Free, Enabled, Default, Addressed, Configured, Slot, Table}
use Rattle.definition.specs.Table.{endpoint_of, slot_of, with_endpoint, with_slot, with_registers}
use Rattle.definition.proofs.TableLaws.{Sized, IsSlot, IsEndpoint, sized_endpoint, sized_slot, sized_registers, endpoint_elsewhere, endpoint_slot, endpoint_registers, slot_here, slot_other, slot_endpoint, slot_registers}
use Rattle.definition.proofs.FormedFacts.{Proper, formed_limit, formed_length, Zeroes, InUse, Fits, slot_fits, is_proper}

-- ---- what a slot's facts depend on

-- the records of a slot in two tables
abbrev pub Alike : ℕ → Table → Table → Type 0
Alike id t u = (i : ℕ) → IsEndpoint i → endpoint_of u id i ≡ endpoint_of t id i

module _ (id : ℕ) (t u : Table) (a : Alike id t u) where
  zeroes_alike : Zeroes id t → Zeroes id u
  zeroes_alike z i n = rw (a i n) (z i n)

  used_alike : (base : ℕ) → u.length ≡ t.length → InUse t.length base id t → InUse u.length base id u
  used_alike base l f =
      subst (λ (len : ℕ). InUse len base id u) (sym l)
      (record {
        first = rw (a 1 (omega arith, omega arith)) f.first;
        room = f.room;
        serve = λ i n. rw (a i n) (f.serve i n);
      })

  -- the slot, its records and the length: nothing else
  pub fits_alike : (st : SlotState) (s : Slot) → u.length ≡ t.length → Fits st s t id → Fits st s u id
  fits_alike Free s l f = (f.0, f.1, zeroes_alike f.2)
  fits_alike Enabled s l f = (f.0, zeroes_alike f.1)
  fits_alike Default s l f = used_alike s.base l f
  fits_alike Addressed s l f = used_alike s.base l f
  fits_alike Configured s l f = used_alike s.base l f

-- ---- one slot changed

-- u is t but for slot id, its records and DCBAAP
pub record Beside (id : ℕ) (t u : Table) : Type 0 where
  pub sized : Sized u
  pub limit : u.limit ≡ t.limit
  pub length : u.length ≡ t.length
  pub slots : (other : ℕ) → IsSlot other → (other ≡ id → ⊥) → slot_of u other ≡ slot_of t other
  pub records : (other : ℕ) → IsSlot other → (other ≡ id → ⊥) → Alike other t u

-- a table is itself but for any slot
pub beside_same : (id : ℕ) {t : Table} → Proper t → Beside id t t
beside_same id p = record { sized = p.sized; limit = refl; length = refl; slots = λ other s n. refl; records = λ other s n i e. refl }

-- still so after a record of the slot is stored
pub beside_endpoint : {id : ℕ} {t u : Table} → Beside id t u → IsSlot id → (i : ℕ) → IsEndpoint i → (e : Endpoint) → Beside id t (with_endpoint u id i e)
unfolding with_endpoint
beside_endpoint {id} {t} {u} b s i n e =
    record {
      sized = sized_endpoint u id i e b.sized;
      limit = b.limit;
      length = b.length;
      slots = λ other o d. slot_endpoint u id i e other ∙ b.slots other o d;
      records = λ other o d j m. endpoint_elsewhere u id i other j e s.0 o.0 d n m ∙ b.records other o d j m;
    }

-- .. and after the slot is stored
beside_slot : {id : ℕ} {t u : Table} → Beside id t u → IsSlot id → (s : Slot) → Beside id t (with_slot u id s)
unfolding with_slot
beside_slot {id} {t} {u} b h s =
    record {
      sized = sized_slot u id s b.sized;
      limit = b.limit;
      length = b.length;
      slots = λ other o d. slot_other u id s other h.0 o.0 d ∙ b.slots other o d;
      records = λ other o d j m. endpoint_slot u id s other j ∙ b.records other o d j m;
    }

-- the other slots fit as before, so it is enough that this one does
pub closes : {id : ℕ} {t u : Table} → Proper t → Beside id t u → Fits (slot_of u id).state (slot_of u id) u id → Proper u
closes {id} {t} {u} p b f = is_proper u b.sized (rw b.limit (formed_limit _ p.formed)) (rw b.length (formed_length _ p.formed)) (λ j s. by j s (ℕ_discrete j id))
  where
    by : (j : ℕ) → IsSlot j → Dec (j ≡ id) → Fits (slot_of u j).state (slot_of u j) u j
    by j s (yes e) = rw e f
    by j s (no n) =
        subst (λ (r : Slot). Fits r.state r u j) (sym (b.slots j s n))
        (fits_alike j t u (b.records j s n) (slot_of t j).state (slot_of t j) b.length (slot_fits p j s))

-- a new slot stored over it, which fits its records
pub closes_slot : {id : ℕ} {t u : Table} → Proper t → IsSlot id → Beside id t u → (s : Slot) → Fits s.state s u id → Proper (with_slot u id s)
unfolding with_slot
closes_slot {id} {t} {u} p h b s f =
    closes p (beside_slot b h s)
    (subst (λ (r : Slot). Fits r.state r (with_slot u id s) id) (sym (slot_here u id s b.sized h))
    (fits_alike id u (with_slot u id s) (λ i n. endpoint_slot u id s id i) s.state s refl f))

-- other registers
pub registers_proper : {t : Table} → Proper t → (limit dcbaap : ℕ) → limit ≤ 16 → Proper (with_registers t limit dcbaap)
unfolding with_registers
registers_proper {t} p limit dcbaap h =
    is_proper (with_registers t limit dcbaap) (sized_registers t limit dcbaap p.sized) h (formed_length _ p.formed)
    (λ id s. subst (λ (r : Slot). Fits r.state r (with_registers t limit dcbaap) id) (sym (slot_registers t limit dcbaap id))
    (fits_alike id t (with_registers t limit dcbaap) (λ i n. endpoint_registers t limit dcbaap id i) (slot_of t id).state (slot_of t id) refl (slot_fits p id s)))
