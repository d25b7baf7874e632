-- A slot in use, and how its endpoints end: Terminate ends an endpoint in all six states, and an Enabled slot has none.
-- Assumes nothing.
use mathlib.Core.Path.{◌≡◌, refl, subst}
use mathlib.Core.Bool.{Bool, true, false, not, cond, ◌&&◌}
use mathlib.Core.List.{List, [], ◌∷◌}
use Prim.Native.Nat.{ℕ, ◌-◌, ◌^◌, ◌≤◌, ◌<◌}
use native.Mathlib.Omega.{arith}
use native.Mathlib.Decide.{dec_lt}
use borrow.Author.Tests.{leb-true, eqb-true, not-true}
use lib.Dec.{leb, eqb}
use lib.ListN.{length, get_or, get_or-eq_default}
use Rattle.guest.specs.Bytes.{inside, count}
use Rattle.guest.specs.Prog.{Mem, done, put, choose, passed, Store, stores, all, ok}
use Rattle.guest.proofs.ListLaws.{All, all_at, and_left, and_right, count_all, all_head}
use Rattle.guest.proofs.RunLaws.{inside_yes}
use Rattle.guest.proofs.StoreLaws.{runs_last}
use Rattle.definition.specs.Types.{EndpointState, Disabled, Waiting, InFlight, Halted, Error, StoppedContinuable, Stopped, Endpoint, SlotState, Free, Enabled, Default, Addressed, Configured, Slot, Table, Some, None, Terminate}
use Rattle.definition.specs.Table.{endpoint_number, is_disabled, is_free, disabled, free, endpoint_of, slot_of, lookup, is_zero, endpoint_ok, used_ok, no_endpoint, slot_ok_in, slot_ok, well_formed}
use Rattle.definition.specs.Steps.{end, entry, Stepped, step_by, step, terminate_at}
use Rattle.definition.specs.Walks.{Walk}
use Rattle.definition.specs.Commands as commands
use Rattle.definition.specs.Calls.{disable_slot, meaning, prog}
use Rattle.definition.specs.Rules.{Opened}
use Rattle.definition.proofs.TableLaws.{IsSlot, IsEndpoint}
use Rattle.definition.proofs.FormedFacts.{formed_length, formed_slot}
use Rattle.definition.proofs.CountLaws.{Dropping, slot_runs, freeing_runs, prog_runs}

-- ---- Terminate

-- the entry for Terminate is the same in the six states
pub terminate_entry : (s : EndpointState) → eqb (endpoint_number s) 0 ≡ false → entry s Terminate ≡ end
unfolding entry
terminate_entry Disabled h = let z : ◌≡◌ {A = ℕ} 0 1 = cc in absurd (omega arith)
terminate_entry Waiting h = refl
terminate_entry InFlight h = refl
terminate_entry Halted h = refl
terminate_entry Error h = refl
terminate_entry StoppedContinuable h = refl
terminate_entry Stopped h = refl

-- what is left of an endpoint that a step ended
abbrev pub ended_step : Stepped
ended_step = record { endpoint = disabled; code = 1; submit = false; cancel = false }

-- both ways to end the endpoint e, whose context is at `at`: each stores the byte 0 there, and nothing else, and leaves a disabled record
pub record Ended (e : Endpoint) (at : ℕ) : Type 0 where
  pub by_step : step e Terminate at ≡ put at (0 ∷ []) (done (ok ended_step))
  pub by_command : terminate_at e at ≡ put at (0 ∷ []) (done disabled)

-- an endpoint in any of the six states
pub terminate_ends : (e : Endpoint) (at : ℕ) → is_disabled e ≡ false → Ended e at
unfolding step step_by passed terminate_at choose
terminate_ends e at h = record { by_step = rw (terminate_entry e.state h); by_command = rw h }

-- ---- a slot in use

-- what a lookup found
pub used_slot : (t : Table) (id : ℕ) (s : Slot) → lookup t id ≡ Some s → (slot_of t id ≡ s) × IsSlot id × (is_free s ≡ false)
unfolding lookup
used_slot t id s u = by (leb 1 id && leb id 16) (not (is_free (slot_of t id))) refl refl u
  where
    by : (a b : Bool) → (leb 1 id && leb id 16) ≡ a → not (is_free (slot_of t id)) ≡ b → cond (a && b) (Some (slot_of t id)) None ≡ Some s
        → (slot_of t id ≡ s) × IsSlot id × (is_free s ≡ false)
    by true true e d u =
        let same : slot_of t id ≡ s = cc in (
          same,
          (leb-true 1 id (and_left (leb 1 id) (leb id 16) e), leb-true id 16 (and_right (leb 1 id) (leb id 16) e)),
          subst (λ (r : Slot). is_free r ≡ false) same (not-true (is_free (slot_of t id)) d),
        )
    by true false e d u = let z : ◌≡◌ {A = ℕ} 0 1 = cc in absurd (omega arith)
    by false b e d u = let z : ◌≡◌ {A = ℕ} 0 1 = cc in absurd (omega arith)

-- the record of a slot in use lies in the array
pub used_inside : (t : Table) (id : ℕ) → is_free (slot_of t id) ≡ false → id - 1 < length t.slots
unfolding slot_of
used_inside t id f = by (dec_lt (id - 1) (length t.slots))
  where
    by : Dec (id - 1 < length t.slots) → id - 1 < length t.slots
    by (yes h) = h
    by (no h) =
        let e : get_or t.slots (id - 1) free ≡ free = get_or-eq_default t.slots free (omega arith) in
        let z : is_free free ≡ false = subst (λ (r : Slot). is_free r ≡ false) e f in
        let y : ◌≡◌ {A = ℕ} 0 1 = cc in absurd (omega arith)

-- a base lies below the longest memory's end
pub base_low : (t : Table) (id : ℕ) → well_formed t ≡ true → IsSlot id → (slot_of t id).base ≤ 2 ^ 30
unfolding used_ok slot_ok
base_low t id f n = by (slot_of t id).state (formed_slot t f id n)
  where
    used : used_ok t id (slot_of t id).base ≡ true → (slot_of t id).base ≤ 2 ^ 30
    used h =
        omega (
          arith,
          formed_length t f,
          inside_yes t.length (slot_of t id).base 64
              (and_right (not (is_disabled (endpoint_of t id 1))) (inside t.length (slot_of t id).base 64)
              (and_left _ (all (count 31 1) (λ i. endpoint_ok t.length (slot_of t id).base i (endpoint_of t id i))) h)),
        )

    by : (st : SlotState) → slot_ok_in st (slot_of t id) t id ≡ true → (slot_of t id).base ≤ 2 ^ 30
    by Free h = omega (arith, eqb-true (slot_of t id).base 0 (and_left _ (eqb (slot_of t id).entry 0) (and_left _ (no_endpoint t id) h)))
    by Enabled h = omega (arith, eqb-true (slot_of t id).base 0 (and_left _ (no_endpoint t id) h))
    by Default h = used h
    by Addressed h = used h
    by Configured h = used h

-- the slot s of a call that is past 198, 194 and 11
pub record Known (t : Table) (m : Mem) (id : ℕ) (s : Slot) : Type 0 where
  pub same : slot_of t id ≡ s
  pub is : IsSlot id
  pub used : is_free s ≡ false
  pub low : s.base ≤ 2 ^ 30
  pub inside : id - 1 < length t.slots

pub known : (t : Table) (m : Mem) (id : ℕ) (s : Slot) → Opened t m id s → Known t m id s
known t m id s o =
    let u = used_slot t id s o.used in
    record {
      same = u.0;
      is = u.1;
      used = u.2;
      low = subst (λ (r : Slot). r.base ≤ 2 ^ 30) u.0 (base_low t id o.formed u.1);
      inside = used_inside t id (rw u.0 u.2);
    }

-- ---- an Enabled slot

-- it has no endpoint
enabled_none : (t : Table) (id i : ℕ) → well_formed t ≡ true → IsSlot id → (slot_of t id).state ≡ Enabled → IsEndpoint i
    → is_disabled (endpoint_of t id i) ≡ true
unfolding no_endpoint is_zero slot_ok
enabled_none t id i f n e h =
    let ok : slot_ok_in Enabled (slot_of t id) t id ≡ true = subst (λ (st : SlotState). slot_ok_in st (slot_of t id) t id ≡ true) e (formed_slot t f id n) in
    let none : no_endpoint t id ≡ true = and_right (eqb (slot_of t id).base 0) (no_endpoint t id) ok in
    let zero : is_zero (endpoint_of t id i) ≡ true = all_at (λ j. is_zero (endpoint_of t id j)) 31 1 none i h.0 (omega arith) in
    and_left (is_disabled (endpoint_of t id i)) (not (endpoint_of t id i).cycle) (and_left _ (eqb (endpoint_of t id i).pointer 0) zero)

-- a walk that ends nothing
record Idle (t : Table) (is : List ℕ) (ws : List Store) (w : Walk) : Type 0 where
  left : All IsEndpoint is
  same : w.table ≡ t
  none : ws ≡ []

-- Disable Slot of an Enabled slot stores nothing
pub disable_enabled : (id : ℕ) (t : Table) (m : Mem) → (slot_of t id).state ≡ Enabled → stores (prog (disable_slot id) (length m) t) m ≡ []
unfolding meaning commands.disable_slot
disable_enabled id t m e =
    prog_runs (disable_slot id) t m (λ ws x. ws ≡ [])
    (slot_runs (λ c _. refl) 11 (omega arith) t id _
    (λ s o. runs_last _ (freeing_runs id t {I = Idle t} (walk o.formed (known t m id s o).is)
    (record { left = count_all IsEndpoint 31 1 (λ j a b. omega arith); same = refl; none = refl }) (λ ws w d. d.none))))
  where
    walk : well_formed t ≡ true → IsSlot id → Dropping id (slot_of t id).base (Idle t)
    walk f n =
        record {
          skip = λ i is ws w d. record { left = (all_head d.left).1; same = d.same; none = d.none };
          go = λ i is ws w d q.
              let gone : is_disabled (endpoint_of w.table id i) ≡ true = rw d.same (enabled_none t id i f n e (all_head d.left).0) in
              let z : ◌≡◌ {A = ℕ} 0 1 = cc in absurd (omega arith);
        }
