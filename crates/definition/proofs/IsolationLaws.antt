-- A call on one slot leaves every other slot, the limit and DCBAAP as they were, and stores only within its own device context.
-- Assumes nothing.
use mathlib.Core.Path.{◌≡◌, refl, sym, ap, subst, ◌∙◌}
use mathlib.Core.Bool.{Bool, true, false, cond}
use mathlib.Core.List.{List, [], ◌∷◌, ◌++◌}
use Prim.Native.Nat.{ℕ, ◌+◌, ◌-◌, ◌*◌, ◌^◌, ◌≤◌, ◌<◌}
use native.Mathlib.Omega.{arith}
use lib.Dec.{eqb}
use lib.ListN.{length, drop, length-take}
use lib.Seq.{get_or-set_same}
use Rattle.guest.specs.Bytes.{◌⊕◌, count, set_bits, bit, slot_state_byte}
use Rattle.guest.specs.Prog.{Mem, block, run, Within, Store, stores, Touched, Result, ok, refuse}
use Rattle.guest.proofs.ListLaws.{All, none, more, all_map, count_all, those_all, all_head}
use Rattle.guest.proofs.ReadLaws.{applied}
use Rattle.guest.proofs.StoreLaws.{Runs, store, runs_done, runs_last, Stays, stays_none, stays_more, stays_append}
use Rattle.definition.specs.Types.{Enabled, Input, Endpoint, SlotState, Default, Addressed, Configured, Slot, Table}
use Rattle.definition.specs.Table.{slot_number, is_free, disabled, free, endpoint_of, slot_of, with_endpoint, with_slot, no_endpoint, well_formed}
use Rattle.definition.specs.Walks.{Walk, begin}
use Rattle.definition.specs.Commands as commands
use Rattle.definition.specs.Commands.{Told, context_state, endpoint_call}
use Rattle.definition.specs.Calls.{Call, set_limit, set_dcbaap, enable_slot, disable_slot, address_device, configure_endpoint, evaluate_context, reset_device, reset_all, stop_endpoint, reset_endpoint, set_dequeue, doorbell, host_ok, host_stall, host_transaction_error, host_trb_error, meaning, told, prog}
use Rattle.definition.proofs.TableLaws.{IsEndpoint, endpoint_elsewhere, endpoint_slot, slot_other, slot_endpoint}
use Rattle.definition.proofs.FormedFacts.{formed_length}
use Rattle.definition.proofs.EndedLaws.{Known, known}
use Rattle.definition.proofs.CountLaws.{Dropping, Adding, Starts, fresh_base, kept_base, kept_ended, copies, copied, half, settle, slot_runs, check_runs, settled_runs, deconfigure_runs, reconfigure_runs, address_runs, freeing_runs, reach_runs, prog_runs}

-- ---- what is shown

-- the slot id of a call on one slot; 0 for the others
abbrev pub slot_in : Call → ℕ
slot_in (set_limit n) = 0
slot_in (set_dcbaap a) = 0
slot_in enable_slot = 0
slot_in (disable_slot id) = id
slot_in (address_device id P bsr) = id
slot_in (configure_endpoint id P dc) = id
slot_in (evaluate_context id P) = id
slot_in (reset_device id) = id
slot_in reset_all = 0
slot_in (stop_endpoint id i) = id
slot_in (reset_endpoint id i) = id
slot_in (set_dequeue id i d) = id
slot_in (doorbell id i l) = id
slot_in (host_ok id i l) = id
slot_in (host_stall id i g) = id
slot_in (host_transaction_error id i g) = id
slot_in (host_trb_error id i) = id

-- the base of the slot's device context: where the slot is free afterwards the base before the call, else the base after it
abbrev pub home : ℕ → Table → Table → ℕ
home id t u = cond (is_free (slot_of u id)) (slot_of t id).base (slot_of u id).base

-- t became u, and the stores ws were made. Only an Enabled slot gets another base
pub record Isolated (id : ℕ) (t u : Table) (ws : List Store) : Type 0 where
  pub registers : (u.limit ≡ t.limit) × (u.dcbaap ≡ t.dcbaap)
  pub slots : (other : ℕ) → 1 ≤ other → (other ≡ id → ⊥) → slot_of u other ≡ slot_of t other
  pub endpoints : (other j : ℕ) → 1 ≤ other → (other ≡ id → ⊥) → IsEndpoint j → endpoint_of u other j ≡ endpoint_of t other j
  pub within : (a : ℕ) → Touched ws a → Within (home id t u) 1024 a
  pub kept : ((slot_of t id).state ≡ Enabled → ⊥) → home id t u ≡ (slot_of t id).base

-- ---- stores within a device context

-- every store lies within the 1024 bytes from base
abbrev Own : ℕ → List Store → Type 0
Own base = Stays (Within base 1024)

own_more : (base at : ℕ) (bs : List ℕ) {ws : List Store} → base ≤ at → at + length bs ≤ base + 1024 → Own base ws → Own base (store at bs ∷ ws)
own_more base at bs h q o = stays_more at bs (λ a w. omega arith) o

-- ---- walks

-- a walk over slot id's endpoints, from the table t
record Aside (t : Table) (id base : ℕ) (is : List ℕ) (ws : List Store) (w : Walk) : Type 0 where
  left : All IsEndpoint is
  registers : (w.table.limit ≡ t.limit) × (w.table.dcbaap ≡ t.dcbaap)
  slots : w.table.slots ≡ t.slots
  endpoints : (other j : ℕ) → 1 ≤ other → (other ≡ id → ⊥) → IsEndpoint j → endpoint_of w.table other j ≡ endpoint_of t other j
  own : Own base ws

aside_begin : (t : Table) (id base : ℕ) {is : List ℕ} → All IsEndpoint is → Aside t id base is [] (begin t)
aside_begin t id base a = record { left = a; registers = (refl, refl); slots = refl; endpoints = λ other j _ _ _. refl; own = stays_none }

module _ (t : Table) (id base : ℕ) (some : 1 ≤ id) (low : base ≤ 2 ^ 30) where
  -- endpoint i becomes e, and what is stored lies in the context
  aside_one : (i : ℕ) (is : List ℕ) (ws vs : List Store) (w v : Walk) (e : Endpoint) → v.table ≡ with_endpoint w.table id i e
      → (IsEndpoint i → Own base vs)
      → Aside t id base (i ∷ is) ws w → Aside t id base is (ws ++ vs) v
  unfolding with_endpoint
  aside_one i is ws vs w v e same o a =
      let h = all_head a.left in
      record {
        left = h.1;
        registers = (ap (λ (u : Table). u.limit) same ∙ a.registers.0, ap (λ (u : Table). u.dcbaap) same ∙ a.registers.1);
        slots = ap (λ (u : Table). u.slots) same ∙ a.slots;
        endpoints = λ other j b n k.
            ap (λ (u : Table). endpoint_of u other j) same ∙ endpoint_elsewhere w.table id i other j e some b n h.0 k ∙ a.endpoints other j b n k;
        own = stays_append a.own (o h.0);
      }

  aside_drops : Dropping id base (Aside t id base)
  aside_drops =
      record {
        skip = λ i is ws w a. record { left = (all_head a.left).1; registers = a.registers; slots = a.slots; endpoints = a.endpoints; own = a.own };
        go = λ i is ws w a _.
            aside_one i is ws _ w _ disabled refl (λ n. own_more base (base ⊕ 32 * i) (0 ∷ []) (omega arith) (omega arith) stays_none) a;
      }

  aside_joins : (m : Mem) (P : ℕ) → Adding m id P base (Aside t id base)
  aside_joins m P =
      record {
        turn = λ i is ws w a.
            aside_one i is ws _ w _ _ refl
            (λ n. own_more base (base ⊕ 32 * i) (block (applied m ws) (P ⊕ 32 * (i + 1)) 32) (omega arith)
            (omega (arith, length-take 32 (drop (P ⊕ 32 * (i + 1)) (applied m ws))))
            (own_more base (base ⊕ 32 * i) (1 ∷ []) (omega arith) (omega arith) stays_none)) a;
      }

  -- the slot changes at the end
  module _ (inside : id - 1 < length t.slots) (keeps : ((slot_of t id).state ≡ Enabled → ⊥) → base ≡ (slot_of t id).base)
      (ws : List Store) (w : Walk) (a : Aside t id base [] ws w) where
    slot_set : (s : Slot) → slot_of (with_slot w.table id s) id ≡ s
    unfolding slot_of with_slot
    slot_set s = get_or-set_same w.table.slots (id - 1) s free (rw a.slots inside)

    aside_slot : (s : Slot) → home id t (with_slot w.table id s) ≡ base → Isolated id t (with_slot w.table id s) ws
    unfolding slot_of with_slot
    aside_slot s e =
        record {
          registers = a.registers;
          slots = λ other b n. slot_other w.table id s other some b n ∙ rw a.slots;
          endpoints = λ other j b n k. endpoint_slot w.table id s other j ∙ a.endpoints other j b n k;
          within = λ b q. subst (λ (x : ℕ). Within x 1024 b) (sym e) (a.own.at b q);
          kept = λ n. e ∙ keeps n;
        }

    aside_settled : (nxt : SlotState) (entry : ℕ) → eqb (slot_number nxt) 0 ≡ false
        → Isolated id t (with_slot w.table id (record { state = nxt; base = base; entry = entry })) ws
    aside_settled nxt entry n = aside_slot _ (rw (slot_set (record { state = nxt; base = base; entry = entry }), n))

    aside_freed : (slot_of t id).base ≡ base → Isolated id t (with_slot w.table id free) ws
    aside_freed e = aside_slot free (rw (slot_set free, e))

-- ---- commands

-- endpoints 2 to 31, and those of them whose bit is set
pub later : All IsEndpoint (count 30 2)
later = count_all IsEndpoint 30 2 (λ j a b. omega arith)

pub flagged : (x : ℕ) → All IsEndpoint (set_bits 30 2 x)
flagged x = all_map (λ i h. h.0) (those_all IsEndpoint (bit x) (count 30 2) later)

one : All IsEndpoint (1 ∷ [])
one = more {i = 1} (omega arith) none

either : (b : Bool) (x : ℕ) → cond b x x ≡ x
either true x = refl
either false x = refl

module _ (t : Table) (m : Mem) (id : ℕ) where
  -- what is shown of a call's program
  abbrev Alone : List Store → Result Told → Type 0
  Alone ws r = Isolated id t (told t r).1 ws

  same_table : (c : ℕ) → Alone [] (refuse c)
  unfolding Touched
  same_table c =
      record {
        registers = (refl, refl);
        slots = λ other _ _. refl;
        endpoints = λ other j _ _ _. refl;
        within = λ a h. absurd h;
        kept = λ _. either (is_free (slot_of t id)) (slot_of t id).base;
      }

  refused : (c : ℕ) → 2 ≤ c → Alone [] (refuse c)
  refused c _ = same_table c

  module _ (s : Slot) (k : Known t m id s) where
    -- the slot's state byte is stored last
    finish_alone : (ws : List Store) (w : Walk) (nxt : SlotState) → eqb (slot_number nxt) 0 ≡ false → Aside t id s.base [] ws w
        → Alone (ws ++ store (s.base + 15) (slot_state_byte (context_state nxt) ∷ []) ∷ []) (ok (settle id nxt s.base s.entry w))
    finish_alone ws w nxt n a =
        aside_settled t id s.base k.is.0 k.low k.inside (λ _. ap (λ (r : Slot). r.base) (sym k.same)) _ w
        (record {
          left = none;
          registers = a.registers;
          slots = a.slots;
          endpoints = a.endpoints;
          own = stays_append a.own (own_more s.base (s.base + 15) _ (omega arith) (omega arith) stays_none);
        }) nxt s.entry n

    deconfigure_alone : (nxt : SlotState) → eqb (slot_number nxt) 0 ≡ false → Runs (commands.deconfigure id s nxt t) m Alone
    deconfigure_alone nxt n =
        deconfigure_runs id s t nxt (aside_drops t id s.base k.is.0 k.low) (aside_begin t id s.base later) (λ ws w a. finish_alone ws w nxt n a)

    reconfigure_alone : (accepts : ℕ → Bool) (P : ℕ) → Runs (commands.reconfigure accepts id P s (length m) t) m Alone
    reconfigure_alone accepts P =
        reconfigure_runs id s t refused accepts (length m) P (aside_drops t id s.base k.is.0 k.low) (aside_joins t id s.base k.is.0 k.low m P)
        (λ _ ws w a. record { left = flagged _; registers = a.registers; slots = a.slots; endpoints = a.endpoints; own = a.own })
        (aside_begin t id s.base (flagged _)) (λ ws w a. finish_alone ws w Configured refl a)

    begins_kept : {ws : List Store} {base : ℕ} {w : Walk} → Starts m id s t ws base w → ((slot_of t id).state ≡ Enabled → ⊥) → base ≡ (slot_of t id).base
    begins_kept (fresh_base e) n = absurd (n (ap (λ (r : Slot). r.state) k.same ∙ e))
    begins_kept (kept_base e) n = ap (λ (r : Slot). r.base) (sym k.same)
    begins_kept (kept_ended e) n = ap (λ (r : Slot). r.base) (sym k.same)

    begins_alone : {ws : List Store} {base : ℕ} {w : Walk} → base ≤ 2 ^ 30 → Starts m id s t ws base w → Aside t id base (1 ∷ []) ws w
    begins_alone low (fresh_base e) = aside_begin t id _ one
    begins_alone low (kept_base e) = aside_begin t id _ one
    begins_alone low (kept_ended e) =
        aside_one t id s.base k.is.0 low 1 (1 ∷ []) [] _ (begin t) _ disabled refl
        (λ n. own_more s.base (s.base ⊕ 32 * 1) (0 ∷ []) (omega arith) (omega arith) stays_none)
        (aside_begin t id s.base (more {i = 1} (omega arith) one))

    address_alone : (P : ℕ) (bsr : Bool) → t.length ≡ length m → well_formed t ≡ true
        → Runs (commands.carry_out (length m) P t id s (commands.plan s.state bsr)) m Alone
    address_alone P bsr size f =
        address_runs id s t refused (length m) P bsr
        (λ ws base nxt w b n _ h.
        let low : base ≤ 2 ^ 30 = omega (arith, formed_length t f) in
        aside_settled t id base k.is.0 low k.inside (begins_kept b) _ (copied (applied m ws) (P ⊕ 32) id base nxt w)
        (aside_one t id base k.is.0 low 1 [] ws (copies (applied m ws) (P ⊕ 32) base nxt) w _ _ refl
        (λ _. copies_own (applied m ws) base nxt low) (begins_alone low b)) nxt s.entry n)
      where
        copies_own : (n : Mem) (base : ℕ) (nxt : SlotState) → base ≤ 2 ^ 30 → Own base (copies n (P ⊕ 32) base nxt)
        copies_own n base nxt low =
            own_more base base (block n (P ⊕ 32) 32) (omega arith) (omega (arith, length-take 32 (drop (P ⊕ 32) n)))
            (own_more base (base + 15) _ (omega arith) (omega arith)
            (own_more base (base ⊕ 32 * 1) (block (half n (P ⊕ 32) base nxt) ((P ⊕ 32) + 32) 32) (omega arith)
            (omega (arith, length-take 32 (drop ((P ⊕ 32) + 32) (half n (P ⊕ 32) base nxt))))
            (own_more base (base ⊕ 32 * 1) (1 ∷ []) (omega arith) (omega arith) stays_none)))

    disable_alone : Runs (commands.freeing id t) m (λ ws w. Isolated id t w.table ws)
    disable_alone =
        let low : (slot_of t id).base ≤ 2 ^ 30 = rw k.same k.low in
        freeing_runs id t (aside_drops t id (slot_of t id).base k.is.0 low) (aside_begin t id _ (count_all IsEndpoint 31 1 (λ j a b. omega arith)))
        (λ ws w a. aside_freed t id (slot_of t id).base k.is.0 low k.inside (λ _. refl) ws w a refl)

  reach_alone : (no_slot no_endpoint i : ℕ) → 2 ≤ no_slot → 2 ≤ no_endpoint → (input : Input) → Runs (endpoint_call no_slot no_endpoint id i input (length m) t) m Alone
  unfolding with_endpoint
  reach_alone no_slot no_endpoint i p q input =
      reach_runs refused no_slot no_endpoint id i p q input t
      (λ s ws r o e _ w.
      let k = known t m id s o in
      let base : home id t (with_endpoint t id i r.endpoint) ≡ s.base = rw (slot_endpoint t id i r.endpoint id, k.same, k.used) in
      record {
        registers = (refl, refl);
        slots = λ other _ _. slot_endpoint t id i r.endpoint other;
        endpoints = λ other j b n d. endpoint_elsewhere t id i other j r.endpoint k.is.0 b n e d;
        within = λ a h. subst (λ (x : ℕ). Within x 1024 a) (sym base) (omega (arith, w a h, k.low));
        kept = λ _. base ∙ ap (λ (r : Slot). r.base) (sym k.same);
      })

-- ---- the law

-- every such call's meaning
alone : (c : Call) (t : Table) (m : Mem) → 1 ≤ slot_in c → Runs (meaning c (length m) t) m (Alone t m (slot_in c))
unfolding meaning commands.disable_slot commands.address_device commands.configure_endpoint commands.evaluate_context commands.reset_device
alone (set_limit n) t m h = absurd (omega arith)
alone (set_dcbaap a) t m h = absurd (omega arith)
alone enable_slot t m h = absurd (omega arith)
alone (disable_slot id) t m h = slot_runs (refused t m id) 11 (omega arith) t id _ (λ s o. runs_last _ (disable_alone t m id s (known t m id s o)))
alone (address_device id P bsr) t m h =
    slot_runs (refused t m id) 11 (omega arith) t id _
    (λ s o. check_runs (refused t m id) _ (length m) P _ (address_alone t m id s (known t m id s o) P bsr o.size o.formed))
alone (configure_endpoint id P true) t m h =
    slot_runs (refused t m id) 11 (omega arith) t id _
    (λ s o. settled_runs (refused t m id) s.state (λ _. deconfigure_alone t m id s (known t m id s o) Addressed refl))
alone (configure_endpoint id P false) t m h =
    slot_runs (refused t m id) 11 (omega arith) t id _ (λ s o. settled_runs (refused t m id) s.state (λ _. reconfigure_alone t m id s (known t m id s o) _ P))
alone (evaluate_context id P) t m h =
    slot_runs (refused t m id) 11 (omega arith) t id _ (λ s o. check_runs (refused t m id) _ (length m) P _ (runs_done (same_table t m id 1)))
alone (reset_device id) t m h =
    slot_runs (refused t m id) 11 (omega arith) t id _
    (λ s o. settled_runs (refused t m id) s.state (λ _. deconfigure_alone t m id s (known t m id s o) Default refl))
alone reset_all t m h = absurd (omega arith)
alone (stop_endpoint id i) t m h = reach_alone t m id 11 12 i (omega arith) (omega arith) _
alone (reset_endpoint id i) t m h = reach_alone t m id 11 12 i (omega arith) (omega arith) _
alone (set_dequeue id i d) t m h = reach_alone t m id 11 12 i (omega arith) (omega arith) _
alone (doorbell id i l) t m h = reach_alone t m id 11 12 i (omega arith) (omega arith) _
alone (host_ok id i l) t m h = reach_alone t m id 196 196 i (omega arith) (omega arith) _
alone (host_stall id i g) t m h = reach_alone t m id 196 196 i (omega arith) (omega arith) _
alone (host_transaction_error id i g) t m h = reach_alone t m id 196 196 i (omega arith) (omega arith) _
alone (host_trb_error id i) t m h = reach_alone t m id 196 196 i (omega arith) (omega arith) _

-- a call on one slot, whatever the table and the memory
pub isolation : (c : Call) (t : Table) (m : Mem) → 1 ≤ slot_in c
    → Isolated (slot_in c) t (run (prog c (length m) t) m 0).value.1 (stores (prog c (length m) t) m)
isolation c t m h = prog_runs c t m (λ ws x. Isolated (slot_in c) t x.1 ws) (alone c t m h)
