-- Laws of a slot's 31 records, lent out of the table: a change among them is a change of the table.
-- Assumes nothing.
use Rattle.std.proofs.Common.{◌≡◌, ℕ, ◌+◌, ◌-◌, ◌*◌, ◌≤◌, ◌<◌, List, ◌++◌, length, take, drop, get_or, set, refl, ap, ◌∙◌, arith}
use Rattle.std.proofs.lemmas.List.{length-take-le, length-drop, length-append, take-append-drop, get_or-take, get_or-drop, get_or-append_right, get_or_append_left, set-append_left, set-append_right}
use native.Mathlib.Decide.{ℕ_discrete}
use Rattle.definition.specs.declared.Endpoint.{Endpoint}
use Rattle.definition.specs.declared.Table.{Table}
use Rattle.definition.specs.Table.{disabled, place, endpoint_of, slot_of, with_endpoint}
use Rattle.definition.proofs.TableLaws.{IsSlot, IsEndpoint}
use Rattle.walks.specs.Promises.{record_of, with_records, Rooms, RoomsIn}

-- where slot id's records begin
abbrev first : ℕ → ℕ
first id = (id - 1) * 31

-- the part that is lent
abbrev pub records_of : Table → ℕ → List Endpoint
records_of t id = take 31 (drop (first id) t.endpoints)

-- what is lent from there on are 31
pub lent_length : (id : ℕ) → (id - 1) * 31 + 31 - (id - 1) * 31 ≡ 31
lent_length id = omega arith

module _ (t : Table) (id : ℕ) (z : length t.endpoints ≡ 496) (n : IsSlot id) where
  front : length (take (first id) t.endpoints) ≡ first id
  front = length-take-le (first id) t.endpoints (omega (arith, n.0, n.1))

  -- the records as they are
  pub records_back : with_records t id (records_of t id) ≡ t
  unfolding with_records
  records_back = rw (take-append-drop 31 (drop (first id) t.endpoints), take-append-drop (first id) t.endpoints)

  pub records_length : length (records_of t id) ≡ 31
  records_length = length-take-le 31 (drop (first id) t.endpoints) (omega (arith, length-drop (first id) t.endpoints, n.0, n.1))

  module _ (es : List Endpoint) (l : length es ≡ 31) where
    abbrev back : List Endpoint
    back = drop 31 (drop (first id) t.endpoints)

    -- the run is as long as it was
    pub records_size : length (with_records t id es).endpoints ≡ 496
    unfolding with_records
    records_size =
        simp length-append (omega (arith, front, l, length-drop 31 (drop (first id) t.endpoints), length-drop (first id) t.endpoints, z, n.0, n.1))

    pub records_read : (i : ℕ) → IsEndpoint i → endpoint_of (with_records t id es) id i ≡ record_of es i
    unfolding endpoint_of with_records
    records_read i h =
        let e : place id i - first id ≡ i - 1 = omega arith in
        rw (get_or-append_right (take (first id) t.endpoints) (es ++ back) (first id) (place id i) disabled front (omega arith), e)
        (get_or_append_left es back disabled (i - 1) (omega (arith, h.0, h.1)))

    pub records_write : (i : ℕ) (e : Endpoint) → IsEndpoint i → with_endpoint (with_records t id es) id i e ≡ with_records t id (set es (i - 1) e)
    unfolding with_endpoint with_records
    records_write i e h =
        let q : place id i - first id ≡ i - 1 = omega arith in
        rw (
          set-append_right (take (first id) t.endpoints) (es ++ back) (first id) (place id i) e front (omega arith),
          q,
          set-append_left es back (i - 1) e (omega (arith, h.0, h.1)),
        )

    -- another slot's are as they were
    pub records_elsewhere : (other j : ℕ) → 1 ≤ other → (other ≡ id → ⊥) → IsEndpoint j → endpoint_of (with_records t id es) other j ≡ endpoint_of t other j
    unfolding endpoint_of with_records
    records_elsewhere other j a d h = by (ℕ_discrete (other - id) 0)
      where
        by : Dec (other - id ≡ 0) → get_or (take (first id) t.endpoints ++ (es ++ back)) (place other j) disabled ≡ get_or t.endpoints (place other j) disabled
        by (yes q) =
            let below : other < id = omega arith in
            let p : place other j < first id = omega (arith, h.0, h.1) in
            get_or_append_left (take (first id) t.endpoints) (es ++ back) disabled (place other j) (rw front p)
            ∙ get_or-take (first id) t.endpoints (place other j) disabled p
        by (no q) =
            let above : id < other = omega arith in
            let p : first id + 31 ≤ place other j = omega (arith, h.0, h.1) in
            let r : first id + (31 + (place other j - first id - 31)) ≡ place other j = omega arith in
            get_or-append_right (take (first id) t.endpoints) (es ++ back) (first id) (place other j) disabled front (omega arith)
            ∙ get_or-append_right es back 31 (place other j - first id) disabled l (omega arith)
            ∙ get_or-drop 31 (drop (first id) t.endpoints) (place other j - first id - 31) disabled
            ∙ get_or-drop (first id) t.endpoints (31 + (place other j - first id - 31)) disabled
            ∙ ap (λ (k : ℕ). get_or t.endpoints k disabled) r

-- the record that is lent is the table's, so those that are lent have room where the table's have
pub records_rooms : (t : Table) (id base lo len : ℕ) → length t.endpoints ≡ 496 → IsSlot id → 1 ≤ lo → Rooms t id base lo len
    → RoomsIn (records_of t id) base lo len
records_rooms t id base lo len z n one r i a b d =
    let e = records_read t id z n (records_of t id) (records_length t id z n) i (omega arith, b) in
    r i a b (rw (← e, records_back t id z n) at d)

pub records_slot : (t : Table) (id : ℕ) (es : List Endpoint) (other : ℕ) → slot_of (with_records t id es) other ≡ slot_of t other
unfolding slot_of with_records
records_slot t id es other = refl
