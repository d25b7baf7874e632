-- Laws of the scan: faults that are gathered by `|`, a slot's test from its own part and its records, loops of tests over counted
-- numbers, the head of a call.
-- Assumes nothing.
use mathlib.Core.Path.{◌≡◌, refl, sym, ap, ◌∙◌}
use mathlib.Core.Bool.{Bool, true, false, not, ◌&&◌, ◌||◌}
use Prim.Native.Nat.{ℕ, ◌+◌, ◌-◌, ◌*◌, ◌≤◌, ◌<◌}
use native.Mathlib.Nat.{add-zero}
use native.Mathlib.Omega.{arith}
use borrow.Author.Tests.{leb-true, le-leb, lt-leb, eq-eqb, ne_eqb, eqb-true, eqb-false}
use mir.Val.{bool_byte}
use lib.Bits.{bit_or, or_add_and, and_le_r}
use lib.Dec.{leb, eqb}
use lib.ListN.{get_or}
use Rattle.guest.specs.Bytes.{count}
use Rattle.guest.specs.Prog.{all}
use Rattle.guest.proofs.LoopLaws.{Testing, testing_begins, testing_goes, testing_ends, testing_fails}
use Rattle.guest.proofs.ListLaws.{count_none, count_first, and_left, and_right}
use Rattle.definition.proofs.EndedLaws.{used_slot}
use Rattle.definition.specs.Table.{disabled, endpoint_of, slot_of, is_zero, endpoint_ok, used_ok, no_endpoint, slot_ok_in, slot_ok, well_formed, lookup}
use Rattle.scan.specs.Types.{Endpoint, SlotState, Free, Enabled, Default, Addressed, Configured, Slot, Table, Option, Some, None, OtherMemory, Malformed}
use Rattle.std.specs.Prelude.{Ok, Err, is_ok}
use Rattle.scan.specs.declared.Head.{Head}
use Rattle.scan.specs.Records.{first_of, has_contexts, in_use, own_in, own_ok, clear}
use Rattle.scan.specs.Heads.{judged, code_for, Begun, begun, checked, record_at, head_of, head_for, found_in}

-- ---- one record

-- numbers joined by `|` are 0 where both are
or_zero : (a b : ℕ) → eqb (bit_or a b) 0 ≡ (eqb a 0 && eqb b 0)
or_zero a b = by (eqb a 0) refl
  where
    by : (q : Bool) → eqb a 0 ≡ q → eqb (bit_or a b) 0 ≡ (q && eqb b 0)
    by true e = rw (eqb-true a 0 e)
    by false e =
        let n : a ≡ 0 → ⊥ = eqb-false a 0 e in
        let s = or_add_and a b in
        let l = and_le_r a b in
        ne_eqb (bit_or a b) 0 (λ (z : bit_or a b ≡ 0). n (omega arith))

swap : (a b x y : Bool) → ((a && x) && (b && y)) ≡ ((a && b) && (x && y))
swap true true x y = refl
swap true false true y = refl
swap true false false y = refl
swap false b x y = refl

not_or : (c d : Bool) → not (c || d) ≡ (not c && not d)
not_or true d = refl
not_or false d = refl

-- faults joined
clear_or : (a : ℕ) (c : Bool) (b x : ℕ) (d : Bool) (y : ℕ) → clear (bit_or a x) (c || d) (bit_or b y) ≡ (clear a c b && clear x d y)
clear_or a c b x d y =
    rw (or_zero a x, or_zero b y, not_or c d)
    (ap (λ (q : Bool). q && (eqb b 0 && eqb y 0)) (swap (eqb a 0) (not c) (eqb x 0) (not d))
    ∙ swap (eqb a 0 && not c) (eqb b 0) (eqb x 0 && not d) (eqb y 0))

-- the three as one number
pub clear_all : (a : ℕ) (c : Bool) (b : ℕ) → eqb (bit_or (bit_or a (bool_byte c)) b) 0 ≡ clear a c b
clear_all a true b = or_zero (bit_or a 1) b ∙ ap (λ (q : Bool). q && eqb b 0) (or_zero a 1)
clear_all a false b = or_zero (bit_or a 0) b ∙ ap (λ (q : Bool). q && eqb b 0) (or_zero a 0)

-- ---- a loop of tests

-- from 1 up to `end`, at i: `good` is what was found so far
pub record Scan (f : ℕ → Bool) (end i : ℕ) (good : Bool) : Type 0 where
  pub low : 1 ≤ i
  pub high : i ≤ end
  pub tests : Testing f (count (end - 1) 1) (count (end - i) i) good

pub scan_begins : (f : ℕ → Bool) (end : ℕ) → 1 ≤ end → Scan f end 1 true
scan_begins f end h = record { low = omega arith; high = h; tests = testing_begins f (count (end - 1) 1) }

pub scan_goes : (f : ℕ → Bool) {end i : ℕ} {good : Bool} → Scan f end i good → i < end → (now : Bool) → now ≡ (good && f i) → Scan f end (i + 1) now
scan_goes f {end} {i} s h now d =
    record { low = omega (arith, s.low); high = omega arith; tests = testing_goes f s.tests (count_first end i h) now d }

pub scan_ends : (f : ℕ → Bool) {end i : ℕ} {good : Bool} → Scan f end i good → end ≤ i → good ≡ all (count (end - 1) 1) f
scan_ends f {end} {i} s h = testing_ends f s.tests (count_none (end - i) i (omega arith))

pub scan_fails : (f : ℕ → Bool) {end i : ℕ} → Scan f end i true → i < end → f i ≡ false → all (count (end - 1) 1) f ≡ false
scan_fails f {end} {i} s h e = testing_fails f s.tests (count_first end i h) e

-- a turn whose faults are joined to those found so far
pub scan_gathers : (f : ℕ → Bool) {end i : ℕ} (a : ℕ) (c : Bool) (b x : ℕ) (d : Bool) (y : ℕ) → Scan f end i (clear a c b) → i < end → clear x d y ≡ f i
    → Scan f end (i + 1) (clear (bit_or a x) (c || d) (bit_or b y))
scan_gathers f a c b x d y s h e = scan_goes f s h _ (clear_or a c b x d y ∙ ap (λ (q : Bool). clear a c b && q) e)

-- ---- one slot

-- the test of endpoint i's record, in a slot that has contexts from `base` on or has none
abbrev pub test_of : Bool → ℕ → ℕ → Table → ℕ → ℕ → Bool
test_of true length base t id i = endpoint_ok length base i (endpoint_of t id i)
test_of false length base t id i = is_zero (endpoint_of t id i)

pub first_is : (t : Table) (id : ℕ) → endpoint_of t id 1 ≡ first_of t id
unfolding endpoint_of
first_is t id = ap (λ (k : ℕ). get_or t.endpoints k disabled) (add-zero ((id - 1) * 31))

slot_in_lem : (st : SlotState) (s : Slot) (t : Table) (id : ℕ)
    → (own_in st s (endpoint_of t id 1) t.length && all (count 31 1) (test_of (has_contexts st) t.length s.base t id))
    ≡ slot_ok_in st s t id
unfolding in_use used_ok no_endpoint
slot_in_lem Free s t id = refl
slot_in_lem Enabled s t id = refl
slot_in_lem Default s t id = refl
slot_in_lem Addressed s t id = refl
slot_in_lem Configured s t id = refl

-- own is what `slot_ok` gives
module _ (t : Table) (id : ℕ) {own : Bool} (e : own ≡ own_ok (slot_of t id) (first_of t id) t.length) where
  -- the slot's own part fails
  pub slot_bad : own ≡ false → slot_ok t id ≡ false
  unfolding own_ok slot_ok
  slot_bad h = sym (slot_in_lem (slot_of t id).state (slot_of t id) t id) ∙ rw (first_is t id, sym e ∙ h)

  -- it passes: the faults gathered from the records decide
  pub slot_is : own ≡ true → {contexts good : Bool} {i : ℕ} → contexts ≡ has_contexts (slot_of t id).state
      → Scan (test_of contexts t.length (slot_of t id).base t id) 32 i good → 32 ≤ i → slot_ok t id ≡ good
  unfolding own_ok slot_ok
  slot_is h u s l =
      sym (slot_in_lem (slot_of t id).state (slot_of t id) t id) ∙ rw (first_is t id, sym e ∙ h) (sym (scan_ends _ s l ∙ rw u))

-- ---- the table

module _ (t : Table) where
  pub over_limit : 16 < t.limit → false ≡ well_formed t
  unfolding well_formed
  over_limit h = rw (lt-leb t.limit 16 h)

  pub over_length : t.limit ≤ 16 → 1073741824 < t.length → false ≡ well_formed t
  unfolding well_formed
  over_length h k = rw (le-leb t.limit 16 h, lt-leb t.length 1073741824 k)

  -- limit and length are in range: the slots decide
  pub slots_decide : {good : Bool} → t.limit ≤ 16 → t.length ≤ 1073741824 → all (count 16 1) (slot_ok t) ≡ good → good ≡ well_formed t
  unfolding well_formed
  slots_decide h k e = rw (le-leb t.limit 16 h, le-leb t.length 1073741824 k) (sym e)

-- ---- the head of a call

pub found_is : (t : Table) (id : ℕ) → found_in t.slots id ≡ lookup t id
unfolding found_in lookup slot_of
found_is t id = refl

used_is : (t : Table) (id : ℕ) {l : Option Slot} {s : Slot} → l ≡ found_in t.slots id → l ≡ Some s → lookup t id ≡ Some s
used_is t id e u = sym (found_is t id) ∙ sym e ∙ u

module _ (t : Table) (len id i : ℕ) where
  -- 198
  pub head_malformed : false ≡ well_formed t → Err Malformed ≡ head_for t len id i
  unfolding head_for
  head_malformed e = rw (← e)

  -- 194
  pub head_other : true ≡ well_formed t → (t.length ≡ len → ⊥) → Err OtherMemory ≡ head_for t len id i
  unfolding head_for
  head_other e n = rw (← e, ne_eqb _ _ n)

  -- what the look found
  head_of_lem : true ≡ well_formed t → t.length ≡ len → (l : Option Slot) → l ≡ lookup t id → Ok (head_of t id i l) ≡ head_for t len id i
  unfolding head_for
  head_of_lem e z l f = rw (← e, eq-eqb _ _ z, f)

  pub head_absent : true ≡ well_formed t → t.length ≡ len → None ≡ lookup t id → Ok (record { found = None; endpoint = disabled }) ≡ head_for t len id i
  head_absent e z f = head_of_lem e z None f

  head_used : true ≡ well_formed t → t.length ≡ len → {s : Slot} → lookup t id ≡ Some s → {e : Endpoint} → record_at t id i ≡ e
      → Ok (record { found = Some s; endpoint = e }) ≡ head_for t len id i
  head_used e z {s} f r = ap (λ (x : Endpoint). Ok (record { found = Some s; endpoint = x })) (sym r) ∙ head_of_lem e z (Some s) (sym f)

-- the record of an endpoint
pub record_is : (t : Table) (id i : ℕ) → (leb 1 i && leb i 31) ≡ true → record_at t id i ≡ endpoint_of t id i
unfolding record_at
record_is t id i e = rw e

-- .. where the look gave l, and found a slot; inside is what `in_range` gives
module _ (t : Table) (len id i : ℕ) (f : true ≡ well_formed t) (z : t.length ≡ len) {l : Option Slot} {s : Slot} (e : l ≡ found_in t.slots id) (u : l ≡ Some s)
    {inside : Bool} (r : inside ≡ (leb 1 i && leb i 31)) where
  pub head_outside : inside ≡ false → Ok (record { found = Some s; endpoint = disabled }) ≡ head_for t len id i
  unfolding record_at
  head_outside h = head_used t len id i f z (used_is t id e u) (rw (sym r ∙ h))

  pub head_inside : inside ≡ true → Ok (record { found = Some s; endpoint = endpoint_of t id i }) ≡ head_for t len id i
  head_inside h = head_used t len id i f z (used_is t id e u) (record_is t id i (sym r ∙ h))

-- where its record stands
pub bounds : (t : Table) (id i : ℕ) {l : Option Slot} {s : Slot} → l ≡ found_in t.slots id → l ≡ Some s → {inside : Bool} → inside ≡ (leb 1 i && leb i 31) → inside ≡ true
    → (1 ≤ id) × (id ≤ 16) × (1 ≤ i) × (i ≤ 31)
bounds t id i {s = s} e u {inside} r h =
    let q = (used_slot t id s (used_is t id e u)).1 in
    let n = sym r ∙ h in
    (q.0, q.1, leb-true 1 i (and_left (leb 1 i) _ n), leb-true i 31 (and_right (leb 1 i) _ n))

-- what the code tells of the table
pub code_formed : (t : Table) (len : ℕ) {code : ℕ} → code ≡ code_for t len → not (eqb code 198) ≡ well_formed t
unfolding code_for
code_formed t len e = rw e (by (well_formed t) (eqb t.length len))
  where
    by : (b d : Bool) → not (eqb (judged b d) 198) ≡ b
    by true true = refl
    by true false = refl
    by false d = refl

-- ---- a call for no slot

-- a head without what was found
abbrev pub bare : Begun Head → Begun (Unit {0})
bare (Ok h) = Ok tt
bare (Err e) = Err e

pub head_checked : (t : Table) (len id i : ℕ) → bare (head_for t len id i) ≡ checked t len
unfolding head_for checked
head_checked t len id i = by (well_formed t) (eqb t.length len) (head_of t id i (lookup t id))
  where
    by : (b d : Bool) (h : Head) → bare (begun b d h) ≡ begun b d tt
    by true true h = refl
    by true false h = refl
    by false d h = refl

-- with its own length it is refused where it is malformed alone
pub head_formed : (t : Table) (id i : ℕ) → is_ok (head_for t t.length id i) ≡ well_formed t
unfolding head_for
head_formed t id i = rw (eq-eqb t.length t.length refl) (by (well_formed t))
  where
    by : (b : Bool) → is_ok (begun b true (head_of t id i (lookup t id))) ≡ b
    by true = refl
    by false = refl
