-- Every store of a call lies in memory, so none is dropped.
-- Assumes nothing.
use mathlib.Core.Path.{◌≡◌, refl, sym, ap, subst, ◌∙◌}
use mathlib.Core.Bool.{Bool, true, false, ◌&&◌}
use mathlib.Core.List.{List, [], ◌∷◌, ◌++◌}
use Prim.Native.Nat.{ℕ, ◌+◌, ◌*◌, ◌≤◌, ◌<◌}
use native.Mathlib.Omega.{arith}
use native.Mathlib.Decide.{ℕ_discrete}
use borrow.Author.Tests.{not-true}
use lib.Dec.{leb}
use lib.ListN.{length}
use lib.Seq.{get_or-set_other}
use Rattle.guest.specs.Bytes.{◌⊕◌, count, those}
use Rattle.guest.specs.Prog.{Mem, done, bind, block, Store, Writes, Result, refuse}
use Rattle.guest.proofs.ListLaws.{All, all_map, count_all, all_head, and_right}
use Rattle.guest.proofs.ReadLaws.{applied}
use Rattle.guest.proofs.StoreLaws.{Runs, store, runs_done, runs_choose, runs_last, runs_map, runs_each, Stays, stays_none, stays_more, stays_append}
use Rattle.definition.specs.Types.{Input, SlotState, Default, Addressed, Slot, Table}
use Rattle.definition.specs.Table.{is_disabled, is_free, disabled, free, place, endpoint_of, slot_of, with_endpoint, well_formed}
use Rattle.definition.specs.Walks.{Walk}
use Rattle.definition.specs.Commands as commands
use Rattle.definition.specs.Commands.{Told, on_endpoint, endpoint_call}
use Rattle.definition.specs.Calls.{Call, set_limit, set_dcbaap, enable_slot, disable_slot, address_device, configure_endpoint, evaluate_context, reset_device, reset_all, stop_endpoint, reset_endpoint, set_dequeue, doorbell, host_ok, host_stall, host_transaction_error, host_trb_error, meaning, prog}
use Rattle.definition.specs.Rules.{Opened, Settled, is_addressed, is_configured}
use Rattle.definition.proofs.TableLaws.{IsSlot, IsEndpoint, endpoint_slot, slot_other, slot_endpoint}
use Rattle.definition.proofs.FormedFacts.{clash, Fits, formed_fits, fits_serve, ok_enabled}
use Rattle.definition.proofs.MaskLaws.{Ascends, ascends_head, ascends_below, count_ascends}
use Rattle.definition.proofs.EndedLaws.{Known, known}
use Rattle.definition.proofs.IsolationLaws.{later, flagged}
use Rattle.definition.proofs.CountLaws.{context_stores, Held, Dropping, Adding, Starts, fresh_base, kept_base, kept_ended, half, formed_runs, lent_runs, slot_runs, check_runs, settled_runs, deconfigure_runs, reconfigure_runs, address_runs, freeing_runs, reach_runs, prog_runs}

-- ---- stores in memory

-- every store lies in a memory of len bytes
abbrev Lies : ℕ → List Store → Type 0
Lies len = Stays (λ a. a < len)

lies_byte : {len : ℕ} (at b : ℕ) → at < len → Lies len (store at (b ∷ []) ∷ [])
lies_byte at b h = stays_more at (b ∷ []) (λ a w. omega arith) stays_none

-- a context, and then a byte of it
lies_context : {len : ℕ} (n : Mem) (c base at b : ℕ) → base ≤ at → at < base + 32 → base + 32 ≤ len
    → Lies len (store base (block n c 32) ∷ store at (b ∷ []) ∷ [])
lies_context n c base at b l g h = record { at = λ a q. omega (arith, context_stores n c base at b a l g q) }

-- ---- slots and endpoints

-- the first 64 bytes of a slot past Default lie in memory
settled_room : (st : SlotState) (s : Slot) (t : Table) (id : ℕ) → Settled st → Fits st s t id → s.base + 64 ≤ t.length
settled_room st s t id is_addressed f = f.room
settled_room st s t id is_configured f = f.room

every_endpoint : All IsEndpoint (count 31 1)
every_endpoint = count_all IsEndpoint 31 1 (λ j a b. omega arith)

-- an endpoint that is enabled once another has ended was so before
still_enabled : (u : Table) (id i other j : ℕ) → is_disabled (endpoint_of u id i) ≡ false
    → is_disabled (endpoint_of (with_endpoint u id i disabled) other j) ≡ false → is_disabled (endpoint_of u other j) ≡ false
unfolding endpoint_of with_endpoint
still_enabled u id i other j e d = by (ℕ_discrete (place other j) (place id i))
  where
    by : Dec (place other j ≡ place id i) → is_disabled (endpoint_of u other j) ≡ false
    by (yes q) = rw q e
    by (no q) = rw (get_or-set_other u.endpoints (place id i) (place other j) disabled disabled q) at d

-- ---- a call on the table t over the memory m
module _ (t : Table) (m : Mem) where
  -- on the way, with the table u: the slots from `from` on are as they were, and each enabled endpoint of a slot has its 32 bytes in memory
  record Going (from : ℕ) (ws : List Store) (u : Table) : Type 0 where
    same : (id : ℕ) → from ≤ id → slot_of u id ≡ slot_of t id
    safe : (id i : ℕ) → IsSlot id → IsEndpoint i → is_disabled (endpoint_of u id i) ≡ false → ((slot_of t id).base ⊕ 32 * i) + 32 ≤ length m
    lies : Lies (length m) ws

  -- at the beginning, past 198 and 194
  going_begin : well_formed t ≡ true → t.length ≡ length m → Going 1 [] t
  going_begin f size =
      record {
        same = λ id _. refl;
        safe = λ id i n e d. subst (λ (l : ℕ). ((slot_of t id).base ⊕ 32 * i) + 32 ≤ l) size
            (ok_enabled _ _ i _ (fits_serve (slot_of t id).state (slot_of t id) t id (formed_fits t f id n) i e) d).0;
        lies = stays_none;
      }

  -- ---- walks

  -- on the way down a list of endpoints to end, and one of those to add
  abbrev Ending : ℕ → Held
  Ending from is ws w = All IsEndpoint is × Going from ws w.table

  abbrev Joining : ℕ → Held
  Joining base is ws w = All (λ i. (base ⊕ 32 * i) + 32 ≤ length m) is × Lies (length m) ws

  endings : (from id base : ℕ) → IsSlot id → (slot_of t id).base ≡ base → Dropping id base (Ending from)
  endings from id base n b =
      record {
        skip = λ i is ws w d. ((all_head d.0).1, d.1);
        go = λ i is ws w d e.
            let a = all_head d.0 in
            let g = d.1 in (
              a.1,
              record {
                same = λ other h. slot_endpoint w.table id i disabled other ∙ g.same other h;
                safe = λ other j k l h. g.safe other j k l (still_enabled w.table id i other j e h);
                lies = stays_append g.lies (lies_byte (base ⊕ 32 * i) 0 (omega (arith, g.safe id i n a.0 e, b)));
              },
            );
      }

  joinings : (id P base : ℕ) → Adding m id P base (Joining base)
  joinings id P base =
      record {
        turn = λ i is ws w d.
            let a = all_head d.0 in
            let at = base ⊕ 32 * i in
            (a.1, stays_append d.1 (lies_context (applied m ws) (P ⊕ 32 * (i + 1)) at at 1 (omega arith) (omega arith) a.0));
      }

  -- ---- commands

  -- what is shown of a call's program
  abbrev Inside : {A : Type 0} → List Store → A → Type 0
  Inside ws r = Lies (length m) ws

  refused : (c : ℕ) → 2 ≤ c → Inside {A = Result Told} [] (refuse c)
  refused c _ = stays_none

  module _ (id : ℕ) (s : Slot) (o : Opened t m id s) where
    its : Known t m id s
    its = known t m id s o

    same_base : (slot_of t id).base ≡ s.base
    same_base = ap (λ (r : Slot). r.base) its.same

    start : Going 1 [] t
    start = going_begin o.formed o.size

    -- the slot's state byte is stored last
    finish_inside : Settled s.state → {ws : List Store} (b : ℕ) → Lies (length m) ws → Lies (length m) (ws ++ store (s.base + 15) (b ∷ []) ∷ [])
    finish_inside h b l =
        let f : Fits s.state s t id = subst (λ (r : Slot). Fits r.state r t id) its.same (formed_fits t o.formed id its.is) in
        stays_append l (lies_byte (s.base + 15) b (omega (arith, settled_room s.state s t id h f, o.size)))

    deconfigure_inside : (nxt : SlotState) → Settled s.state → Runs (commands.deconfigure id s nxt t) m Inside
    deconfigure_inside nxt h =
        deconfigure_runs id s t nxt (endings 1 id s.base its.is same_base) (later, start) (λ ws w d. finish_inside h _ d.1.lies)

    reconfigure_inside : (accepts : ℕ → Bool) (P : ℕ) → Settled s.state → Runs (commands.reconfigure accepts id P s (length m) t) m Inside
    reconfigure_inside accepts P h =
        reconfigure_runs id s t refused accepts (length m) P (endings 1 id s.base its.is same_base) (joinings id P s.base)
        (λ a ws w d. (all_map (λ i q. q.1) a, d.1.lies)) (flagged _, start) (λ ws w d. finish_inside h _ d.1)

    -- what Address Device stores before its copies
    begins_inside : {ws : List Store} {base : ℕ} {w : Walk} → base + 64 ≤ length m → Starts m id s t ws base w → Lies (length m) ws
    begins_inside h (fresh_base e) = stays_none
    begins_inside h (kept_base e) = stays_none
    begins_inside h (kept_ended e) = lies_byte (s.base ⊕ 32 * 1) 0 (omega arith)

    address_inside : (P : ℕ) (bsr : Bool) → Runs (commands.carry_out (length m) P t id s (commands.plan s.state bsr)) m Inside
    address_inside P bsr =
        address_runs id s t refused (length m) P bsr
        (λ ws base nxt w b _ _ h.
        let c = P ⊕ 32 in
        let at = base ⊕ 32 * 1 in
        stays_append (begins_inside h b)
        (stays_append (lies_context (applied m ws) c base (base + 15) _ (omega arith) (omega arith) (omega arith))
        (lies_context (half (applied m ws) c base nxt) (c + 32) at at 1 (omega arith) (omega arith) (omega arith))))

    disable_inside : Runs (commands.freeing id t) m Inside
    disable_inside = freeing_runs id t (endings 1 id (slot_of t id).base its.is refl) (every_endpoint, start) (λ ws w d. d.1.lies)

  -- all slots, one after another: those left are as they were
  abbrev Freeing : List ℕ → List Store → Table → Type 0
  Freeing ids ws u = (from : ℕ) × (1 ≤ from) × Ascends 17 from ids × Going from ws u

  freeing_turn : (i : ℕ) (is : List ℕ) (ws : List Store) (u : Table) → Freeing (i ∷ is) ws u
      → Runs (bind (commands.freeing i u) λ w. done w.table) (applied m ws) (λ vs v. Freeing is (ws ++ vs) v)
  freeing_turn i is ws u (from, low, left, g) =
      let h = ascends_head left in
      let n : IsSlot i = omega (arith, low, h.0, ascends_below h.1) in
      runs_last _
      (freeing_runs i u (endings i i (slot_of u i).base n (ap (λ (r : Slot). r.base) (sym (g.same i h.0))))
      (every_endpoint, record { same = λ id q. g.same id (omega arith); safe = g.safe; lies = stays_none })
      (λ vs w e. (
        i + 1,
        omega arith,
        h.1,
        record {
          same = λ id q. slot_other w.table i free id n.0 (omega arith) (λ z. omega arith) ∙ e.1.same id (omega arith);
          safe = λ id j k l q. e.1.safe id j k l (rw (endpoint_slot w.table i free id j) at q);
          lies = stays_append g.lies e.1.lies;
        },
      )))

  enable_inside : (ids : List ℕ) → Runs (commands.enable_one t ids) m Inside
  unfolding commands.enable_one
  enable_inside [] = runs_done stays_none
  enable_inside (id ∷ ids) = runs_done stays_none

  -- a call that reaches one endpoint: a disabled one is refused
  reach_inside : (no_slot no_endpoint id i : ℕ) → 2 ≤ no_slot → 2 ≤ no_endpoint → (input : Input)
      → Runs (endpoint_call no_slot no_endpoint id i input (length m) t) m Inside
  unfolding endpoint_call on_endpoint
  reach_inside no_slot no_endpoint id i p q input = by (is_disabled (endpoint_of t id i)) refl
    where
      by : (b : Bool) → is_disabled (endpoint_of t id i) ≡ b → Runs (endpoint_call no_slot no_endpoint id i input (length m) t) m Inside
      by true e =
          slot_runs refused no_slot p t id _
          (λ s o. runs_choose (λ h. absurd (clash _ e (not-true _ (and_right (leb 1 i && leb i 31) _ h)))) (λ _. runs_done stays_none))
      by false e =
          reach_runs refused no_slot no_endpoint id i p q input t
          (λ s ws r o n _ w.
          let context = (start id s o).safe id i (its id s o).is n e in
          record { at = λ a h. omega (arith, w a h, context, same_base id s o) })

  -- every call's meaning
  inside : (c : Call) → Runs (meaning c (length m) t) m Inside
  unfolding meaning commands.set_limit commands.set_dcbaap commands.enable_slot commands.disable_slot commands.address_device commands.configure_endpoint commands.evaluate_context commands.reset_device commands.reset_all
  inside (set_limit n) = formed_runs refused t (λ _. runs_choose (λ _. runs_done stays_none) (λ _. runs_done stays_none))
  inside (set_dcbaap a) = formed_runs refused t (λ _. runs_done stays_none)
  inside enable_slot = formed_runs refused t (λ _. enable_inside (those (λ id. is_free (slot_of t id)) (count t.limit 1)))
  inside (disable_slot id) = slot_runs refused 11 (omega arith) t id _ (λ s o. runs_last _ (disable_inside id s o))
  inside (address_device id P bsr) =
      slot_runs refused 11 (omega arith) t id _ (λ s o. check_runs refused _ (length m) P _ (address_inside id s o P bsr))
  inside (configure_endpoint id P true) =
      slot_runs refused 11 (omega arith) t id _ (λ s o. settled_runs refused s.state (deconfigure_inside id s o Addressed))
  inside (configure_endpoint id P false) =
      slot_runs refused 11 (omega arith) t id _ (λ s o. settled_runs refused s.state (reconfigure_inside id s o _ P))
  inside (evaluate_context id P) = slot_runs refused 11 (omega arith) t id _ (λ s o. check_runs refused _ (length m) P _ (runs_done stays_none))
  inside (reset_device id) = slot_runs refused 11 (omega arith) t id _ (λ s o. settled_runs refused s.state (deconfigure_inside id s o Default))
  inside reset_all =
      formed_runs refused t
      (λ f. lent_runs refused t (length m)
      (λ size. runs_last _ (runs_map (λ ws u d. d.3.lies)
      (runs_each _ m Freeing freeing_turn (1, omega arith, count_ascends 16 1, going_begin f size)))))
  inside (stop_endpoint id i) = reach_inside 11 12 id i (omega arith) (omega arith) _
  inside (reset_endpoint id i) = reach_inside 11 12 id i (omega arith) (omega arith) _
  inside (set_dequeue id i d) = reach_inside 11 12 id i (omega arith) (omega arith) _
  inside (doorbell id i l) = reach_inside 11 12 id i (omega arith) (omega arith) _
  inside (host_ok id i l) = reach_inside 196 196 id i (omega arith) (omega arith) _
  inside (host_stall id i g) = reach_inside 196 196 id i (omega arith) (omega arith) _
  inside (host_transaction_error id i g) = reach_inside 196 196 id i (omega arith) (omega arith) _
  inside (host_trb_error id i) = reach_inside 196 196 id i (omega arith) (omega arith) _

-- every store of a call lies in memory
pub stores_inside : (c : Call) (t : Table) (m : Mem) (a : ℕ) → Writes (prog c (length m) t) m a → a < length m
stores_inside c t m a h = (prog_runs c t m (λ ws x. Lies (length m) ws) (inside t m c)).at a h
