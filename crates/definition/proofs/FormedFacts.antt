-- A well formed table as facts: of its numbers, and of each slot; and the table from those facts again.
-- Assumes nothing.
use mathlib.Core.Path.{◌≡◌, ap}
use mathlib.Core.Bool.{Bool, true, false, not, ◌&&◌}
use Prim.Native.Nat.{ℕ, ◌+◌, ◌*◌, ◌%◌, ◌≤◌}
use native.Mathlib.Omega.{arith}
use borrow.Author.Tests.{leb-true, le-leb, eq-eqb, eqb-true, not-true}
use lib.Dec.{leb, eqb}
use Rattle.guest.specs.Bytes.{◌⊕◌, inside}
use Rattle.guest.proofs.RunLaws.{inside_yes, is_inside}
use Rattle.guest.proofs.ListLaws.{and_left, and_right, both_true, all_at, at_all}
use Rattle.definition.specs.Types.{Endpoint, SlotState, Free, Enabled, Default, Addressed, Configured, Slot, Table}
use Rattle.definition.specs.Table.{is_disabled, endpoint_of, slot_of, is_zero, endpoint_ok, used_ok, no_endpoint, slot_ok_in, slot_ok, well_formed}
use Rattle.definition.proofs.TableLaws.{Sized, IsSlot, IsEndpoint}

-- a test passes or fails
pub clash : (b : Bool) → b ≡ true → b ≡ false → ⊥
clash b p q = let z : ◌≡◌ {A = ℕ} 0 1 = cc in omega arith

-- ---- the table

-- its arrays have their lengths, and it is well formed
pub record Proper (t : Table) : Type 0 where
  pub sized : Sized t
  pub formed : well_formed t ≡ true

abbrev limits : Table → Bool
limits t = leb t.limit 16 && leb t.length 1073741824

-- a well formed table's limit, length and slots
pub formed_limit : (t : Table) → well_formed t ≡ true → t.limit ≤ 16
unfolding well_formed
formed_limit t h = leb-true _ _ (and_left _ _ (and_left (limits t) _ h))

pub formed_length : (t : Table) → well_formed t ≡ true → t.length ≤ 1073741824
unfolding well_formed
formed_length t h = leb-true _ _ (and_right (leb t.limit 16) _ (and_left (limits t) _ h))

pub formed_slot : (t : Table) → well_formed t ≡ true → (id : ℕ) → IsSlot id → slot_ok t id ≡ true
unfolding well_formed
formed_slot t h id s = all_at (slot_ok t) 16 1 (and_right (limits t) _ h) id s.0 (omega arith)

-- ---- a record

-- one that is all zero is disabled
pub zero_disabled : (e : Endpoint) → is_zero e ≡ true → is_disabled e ≡ true
unfolding is_zero
zero_disabled e z = and_left _ (not e.cycle) (and_left (is_disabled e && not e.cycle) _ z)

-- .. and serves for any base
pub zero_ok : (len base i : ℕ) (e : Endpoint) → is_zero e ≡ true → endpoint_ok len base i e ≡ true
unfolding endpoint_ok
zero_ok len base i e z = rw (zero_disabled e z) z

-- a disabled record that serves is all zero
pub ok_zero : (len base i : ℕ) (e : Endpoint) → endpoint_ok len base i e ≡ true → is_disabled e ≡ true → is_zero e ≡ true
unfolding endpoint_ok
ok_zero len base i e h d = rw d at h

-- an enabled record with its context in memory and an aligned pointer serves
pub enabled_ok : (len base i : ℕ) (e : Endpoint) → is_disabled e ≡ false → (base ⊕ 32 * i) + 32 ≤ len → e.pointer % 16 ≡ 0
    → endpoint_ok len base i e ≡ true
unfolding endpoint_ok
enabled_ok len base i e d h a = rw d (both_true _ _ (is_inside len (base ⊕ 32 * i) 32 h) (eq-eqb _ _ a))

-- the context of an enabled record lies in memory, and its pointer is aligned
pub ok_enabled : (len base i : ℕ) (e : Endpoint) → endpoint_ok len base i e ≡ true → is_disabled e ≡ false
    → ((base ⊕ 32 * i) + 32 ≤ len) × (e.pointer % 16 ≡ 0)
unfolding endpoint_ok
ok_enabled len base i e h d =
    let k : (inside len (base ⊕ 32 * i) 32 && eqb (e.pointer % 16) 0) ≡ true = rw d at h in
    (inside_yes len (base ⊕ 32 * i) 32 (and_left _ _ k), eqb-true _ _ (and_right (inside len (base ⊕ 32 * i) 32) _ k))

-- ---- a slot's records

-- they are all zero
abbrev pub Zeroes : ℕ → Table → Type 0
Zeroes id t = (i : ℕ) → IsEndpoint i → is_zero (endpoint_of t id i) ≡ true

-- each serves for this length and base
abbrev pub Serve : ℕ → ℕ → ℕ → Table → Type 0
Serve len base id t = (i : ℕ) → IsEndpoint i → endpoint_ok len base i (endpoint_of t id i) ≡ true

-- what a slot past Enabled has, for this length
pub record InUse (len base id : ℕ) (t : Table) : Type 0 where
  pub first : is_disabled (endpoint_of t id 1) ≡ false
  pub room : base + 64 ≤ len
  pub serve : Serve len base id t

-- the test gives these facts
used_parts : (t : Table) (id base : ℕ) → used_ok t id base ≡ true → InUse t.length base id t
unfolding used_ok
used_parts t id base h =
    let d = not (is_disabled (endpoint_of t id 1)) in
    let e = d && inside t.length base 64 in
    record {
      first = not-true _ (and_left d _ (and_left e _ h));
      room = inside_yes _ _ _ (and_right d _ (and_left e _ h));
      serve = λ i n. all_at (λ i. endpoint_ok t.length base i (endpoint_of t id i)) 31 1 (and_right e _ h) i n.0 (omega arith);
    }

-- .. and they give the test
is_used : (t : Table) (id base : ℕ) → InUse t.length base id t → used_ok t id base ≡ true
unfolding used_ok
is_used t id base u =
    both_true _ _ (both_true _ _ (ap not u.first) (is_inside _ _ _ u.room))
    (at_all (λ i. endpoint_ok t.length base i (endpoint_of t id i)) 31 1 (λ i l h. u.serve i (l, omega arith)))

-- so for a slot with no endpoint
no_parts : (t : Table) (id : ℕ) → no_endpoint t id ≡ true → Zeroes id t
unfolding no_endpoint
no_parts t id h i n = all_at (λ i. is_zero (endpoint_of t id i)) 31 1 h i n.0 (omega arith)

is_no : (t : Table) (id : ℕ) → Zeroes id t → no_endpoint t id ≡ true
unfolding no_endpoint
is_no t id z = at_all (λ i. is_zero (endpoint_of t id i)) 31 1 (λ i l h. z i (l, omega arith))

-- ---- a slot, by its state

-- what a slot's state asks of the slot and its records
abbrev pub Fits : SlotState → Slot → Table → ℕ → Type 0
Fits Free s t id = (s.base ≡ 0) × (s.entry ≡ 0) × Zeroes id t
Fits Enabled s t id = (s.base ≡ 0) × Zeroes id t
Fits Default s t id = InUse t.length s.base id t
Fits Addressed s t id = InUse t.length s.base id t
Fits Configured s t id = InUse t.length s.base id t

-- the test gives it
fits_in : (st : SlotState) (s : Slot) (t : Table) (id : ℕ) → slot_ok_in st s t id ≡ true → Fits st s t id
fits_in Free s t id h =
    let n = eqb s.base 0 && eqb s.entry 0 in
    (eqb-true _ _ (and_left _ (eqb s.entry 0) (and_left n _ h)), eqb-true _ _ (and_right (eqb s.base 0) _ (and_left n _ h)), no_parts t id (and_right n _ h))
fits_in Enabled s t id h = (eqb-true _ _ (and_left _ (no_endpoint t id) h), no_parts t id (and_right (eqb s.base 0) _ h))
fits_in Default s t id h = used_parts t id s.base h
fits_in Addressed s t id h = used_parts t id s.base h
fits_in Configured s t id h = used_parts t id s.base h

-- .. and it gives the test
is_fit : (st : SlotState) (s : Slot) (t : Table) (id : ℕ) → Fits st s t id → slot_ok_in st s t id ≡ true
is_fit Free s t id f = both_true _ _ (both_true _ _ (eq-eqb _ _ f.0) (eq-eqb _ _ f.1)) (is_no t id f.2)
is_fit Enabled s t id f = both_true _ _ (eq-eqb _ _ f.0) (is_no t id f.1)
is_fit Default s t id f = is_used t id s.base f
is_fit Addressed s t id f = is_used t id s.base f
is_fit Configured s t id f = is_used t id s.base f

-- a well formed table's slots fit
pub formed_fits : (t : Table) → well_formed t ≡ true → (id : ℕ) → IsSlot id → Fits (slot_of t id).state (slot_of t id) t id
unfolding slot_ok
formed_fits t h id s = fits_in (slot_of t id).state (slot_of t id) t id (formed_slot t h id s)

pub slot_fits : {t : Table} → Proper t → (id : ℕ) → IsSlot id → Fits (slot_of t id).state (slot_of t id) t id
slot_fits {t} p id s = formed_fits t p.formed id s

-- a table whose slots fit is proper
pub is_proper : (t : Table) → Sized t → t.limit ≤ 16 → t.length ≤ 1073741824
    → ((id : ℕ) → IsSlot id → Fits (slot_of t id).state (slot_of t id) t id) → Proper t
unfolding well_formed slot_ok
is_proper t z a b f =
    record {
      sized = z;
      formed =
          both_true (limits t) _ (both_true _ _ (le-leb _ _ a) (le-leb _ _ b))
          (at_all (slot_ok t) 16 1 (λ id l h. is_fit (slot_of t id).state (slot_of t id) t id (f id (l, omega arith))));
    }

-- the records of any slot serve for its base
pub fits_serve : (st : SlotState) (s : Slot) (t : Table) (id : ℕ) → Fits st s t id → Serve t.length s.base id t
fits_serve Free s t id f = λ i n. zero_ok _ _ _ _ (f.2 i n)
fits_serve Enabled s t id f = λ i n. zero_ok _ _ _ _ (f.1 i n)
fits_serve Default s t id f = f.serve
fits_serve Addressed s t id f = f.serve
fits_serve Configured s t id f = f.serve
