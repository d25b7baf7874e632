-- The shape of every answer: how much a call stores at most, which bits its masks hold, and what is 0.
-- Assumes nothing.
use mathlib.Core.Path.{◌≡◌, refl}
use mathlib.Core.Bool.{Bool, true, false, cond}
use mathlib.Core.List.{List, [], ◌∷◌, ◌++◌}
use Prim.Native.Nat.{ℕ, ◌+◌, ◌*◌, ◌%◌, ◌^◌, ◌≤◌, ◌<◌}
use native.Mathlib.Nat.{zero-add}
use native.Mathlib.Omega.{arith}
use lib.ListN.{length, drop, length-take}
use Rattle.guest.specs.Bytes.{number, ◌⊕◌, slot_state_byte, count, those}
use Rattle.guest.specs.Prog.{Mem, done, bind, each, stores, block, run, Store, Result, refuse}
use Rattle.guest.proofs.ListLaws.{count_length}
use Rattle.guest.proofs.ReadLaws.{applied, total, run_count}
use Rattle.guest.proofs.StoreLaws.{Runs, runs_done, runs_choose, runs_last, runs_map, runs_each, total_append}
use Rattle.definition.specs.Types.{Input, SlotState, Default, Addressed, Configured, Slot, Table, Answer}
use Rattle.definition.specs.Table.{is_free, slot_of}
use Rattle.definition.specs.Walks.{Walk}
use Rattle.definition.specs.Steps.{Stepped}
use Rattle.definition.specs.Commands as commands
use Rattle.definition.specs.Commands.{context_state, Told, answer, walked, stepped, endpoint_call}
use Rattle.definition.specs.Calls.{Call, set_limit, set_dcbaap, enable_slot, disable_slot, address_device, configure_endpoint, evaluate_context, reset_device, reset_all, stop_endpoint, reset_endpoint, set_dequeue, doorbell, host_ok, host_stall, host_transaction_error, host_trb_error, meaning, told, prog}
use Rattle.definition.proofs.MaskLaws.{Going, drops, joins, drops_begin, drops_end, going_end, bits_few, one_more, started, mask_up, mask_bit, bit_some, ascends_below, count_ascends, bits_ascend, ascends_from}
use Rattle.definition.proofs.CountLaws.{copies, copied, half, slot_runs, formed_runs, lent_runs, check_runs, settled_runs, deconfigure_runs, reconfigure_runs, address_runs, freeing_runs, reach_runs, prog_runs}

-- the most bytes that a call stores
abbrev pub most_stored : Call → ℕ
most_stored (set_limit n) = 0
most_stored (set_dcbaap a) = 0
most_stored enable_slot = 0
most_stored (disable_slot id) = 31
most_stored (address_device id P bsr) = 67
most_stored (configure_endpoint id P dc) = 1021
most_stored (evaluate_context id P) = 0
most_stored (reset_device id) = 31
most_stored reset_all = 496
most_stored (stop_endpoint id i) = 9
most_stored (reset_endpoint id i) = 9
most_stored (set_dequeue id i d) = 9
most_stored (doorbell id i l) = 9
most_stored (host_ok id i l) = 9
most_stored (host_stall id i g) = 9
most_stored (host_transaction_error id i g) = 9
most_stored (host_trb_error id i) = 9

-- the answer a of the call c, which stored n bytes. A mask holds no bit but 1 to 31
pub record Shape (c : Call) (n : ℕ) (a : Answer) : Type 0 where
  pub stored : n ≤ most_stored c
  pub launched : (a.launched < 2 ^ 32) × (a.launched % 2 ≡ 0)
  pub terminated : (a.terminated < 2 ^ 32) × (a.terminated % 2 ≡ 0)
  pub slot : (c ≡ enable_slot → ⊥) → a.slot ≡ 0
  pub port : a.launched ≡ 0 → a.port ≡ 0
  pub submit : a.submit ≤ 1
  pub cancel : a.cancel ≤ 1

-- ---- answers

shape_answer : (c : Call) (n code : ℕ) → n ≤ most_stored c → Shape c n (answer code)
shape_answer c n code h =
    record { stored = h; launched = omega arith; terminated = omega arith; slot = λ _. refl; port = λ _. refl; submit = omega arith; cancel = omega arith }

flag_small : (b : Bool) → cond b 1 0 ≤ 1
flag_small true = omega arith
flag_small false = omega arith

shape_stepped : (c : Call) (n : ℕ) (r : Stepped) → n ≤ most_stored c → Shape c n (stepped r)
shape_stepped c n r h =
    record {
      stored = h;
      launched = omega arith;
      terminated = omega arith;
      slot = λ _. refl;
      port = λ _. refl;
      submit = flag_small r.submit;
      cancel = flag_small r.cancel;
    }

shape_walked : (c : Call) (n : ℕ) (w : Walk) → n ≤ most_stored c → Going 32 32 w → Shape c n (walked w)
shape_walked c n w h g =
    record { stored = h; launched = g.begun; terminated = g.ended; slot = λ _. refl; port = g.port; submit = omega arith; cancel = omega arith }

-- ---- commands

module _ (c : Call) (t : Table) where
  -- what is shown of a call's program
  abbrev Fits : List Store → Result Told → Type 0
  Fits ws r = Shape c (total ws) (told t r).0

  refused : (code : ℕ) → 2 ≤ code → Fits [] (refuse code)
  unfolding total
  refused code _ = shape_answer c 0 code (omega arith)

  deconfigure_fits : {m : Mem} (id : ℕ) (s : Slot) (nxt : SlotState) → 31 ≤ most_stored c → Runs (commands.deconfigure id s nxt t) m Fits
  deconfigure_fits id s nxt h =
      deconfigure_runs id s t nxt (drops 30 id s.base)
      (drops_begin 30 t (ascends_from 1 (omega arith) (count_ascends 30 2)) (omega (arith, count_length 30 2)))
      (λ ws w d.
      let e = drops_end 30 ws w d in
      shape_walked c _ w (omega (arith, one_more ws (s.base + 15) (slot_state_byte (context_state nxt)))) (going_end 1 w (omega arith) e.0))

  reconfigure_fits : {m : Mem} (accepts : ℕ → Bool) (id P : ℕ) (s : Slot) (len : ℕ) → 1021 ≤ most_stored c
      → Runs (commands.reconfigure accepts id P s len t) m Fits
  reconfigure_fits {m} accepts id P s len h =
      reconfigure_runs id s t refused accepts len P (drops 30 id s.base) (joins 1020 m id P s.base)
      (λ _ ws w d.
      let e = drops_end 30 ws w d in
      record {
        from = 1;
        low = omega arith;
        left = ascends_from 1 (omega arith) (bits_ascend 30 2 (number (block m (P ⊕ 4) 4)));
        going = e.0;
        stored = omega (arith, bits_few (number (block m (P ⊕ 4) 4)));
      })
      (drops_begin 30 t (ascends_from 1 (omega arith) (bits_ascend 30 2 (number (block m P 4)))) (bits_few (number (block m P 4))))
      (λ ws w d. shape_walked c _ w (omega (arith, one_more ws (s.base + 15) (slot_state_byte (context_state Configured))))
      (going_end d.from w (ascends_below d.left) d.going))

  address_fits : {m : Mem} (len P : ℕ) (bsr : Bool) (id : ℕ) (s : Slot) → 67 ≤ most_stored c
      → Runs (commands.carry_out len P t id s (commands.plan s.state bsr)) m Fits
  unfolding total
  address_fits {m} len P bsr id s h =
      address_runs id s t refused len P bsr
      (λ ws base nxt w b _ _ _.
      let e = started b in
      shape_walked c _ (copied (applied m ws) (P ⊕ 32) id base nxt w) (copies_few ws base nxt e.1 h)
      (record {
        ended = mask_up 2 32 w.terminated (omega arith) e.0.ended;
        begun = mask_up 2 32 (w.launched + 2 ^ 1) (omega arith) (mask_bit 1 1 w.launched (omega arith) (omega arith) e.0.begun);
        port = λ z. absurd (bit_some 1 w.launched z);
      }))
    where
      copies_few : (ws : List Store) (base : ℕ) (nxt : SlotState) → total ws ≤ 1 → 67 ≤ most_stored c
          → total (ws ++ copies (applied m ws) (P ⊕ 32) base nxt) ≤ most_stored c
      copies_few ws base nxt h q =
          omega (
            arith,
            total_append ws (copies (applied m ws) (P ⊕ 32) base nxt),
            length-take 32 (drop (P ⊕ 32) (applied m ws)),
            length-take 32 (drop ((P ⊕ 32) + 32) (half (applied m ws) (P ⊕ 32) base nxt)),
          )

  freeing_fits : {m : Mem} {R : List Store → Walk → Type 0} (id : ℕ) (u : Table) → ((ws : List Store) (w : Walk) → Going 32 32 w → total ws ≤ 31 → R ws w)
      → Runs (commands.freeing id u) m R
  freeing_fits id u g =
      freeing_runs id u (drops 31 id (slot_of u id).base) (drops_begin 31 u (count_ascends 31 1) (omega (arith, count_length 31 1)))
      (λ ws w d.
      let e = drops_end 31 ws w d in
      g ws _ (going_end 1 _ (omega arith) (record { ended = e.0.ended; begun = e.0.begun; port = e.0.port })) e.1)

  reach_fits : {m : Mem} (no_slot no_endpoint id i : ℕ) → 2 ≤ no_slot → 2 ≤ no_endpoint → (input : Input) → 9 ≤ most_stored c
      → Runs (endpoint_call no_slot no_endpoint id i input (length m) t) m Fits
  reach_fits no_slot no_endpoint id i p q input h =
      reach_runs refused no_slot no_endpoint id i p q input t (λ s ws r o e n w. shape_stepped c (total ws) r (omega arith))

  -- all slots freed, one after another
  all_fits : {m : Mem} → Runs (each (count 16 1) (λ id u. bind (commands.freeing id u) λ w. done w.table) t) m (λ ws u. total ws ≤ 496)
  unfolding total
  all_fits {m} =
      runs_map (λ ws u h. omega arith)
      (runs_each _ m (λ is ws u. total ws + 31 * length is ≤ 496)
      (λ i is ws u h. runs_last _ (freeing_fits i u (λ vs w _ n. omega (arith, total_append ws vs))))
      (omega (arith, count_length 16 1)))

  enable_fits : {m : Mem} (ids : List ℕ) → c ≡ enable_slot → Runs (commands.enable_one t ids) m Fits
  unfolding total commands.enable_one
  enable_fits [] e = runs_done (refused 9 (omega arith))
  enable_fits (id ∷ ids) e =
      let zero = shape_answer c 0 1 (omega arith) in
      runs_done (record {
        stored = zero.stored;
        launched = zero.launched;
        terminated = zero.terminated;
        slot = λ n. absurd (n e);
        port = λ _. refl;
        submit = zero.submit;
        cancel = zero.cancel;
      })

-- every call's meaning
fits : (c : Call) (t : Table) (m : Mem) → Runs (meaning c (length m) t) m (Fits c t)
unfolding meaning commands.set_limit commands.set_dcbaap commands.enable_slot commands.disable_slot commands.address_device commands.configure_endpoint commands.evaluate_context commands.reset_device commands.reset_all total
fits (set_limit n) t m =
    let c = set_limit n in
    formed_runs (refused c t) t (λ _. runs_choose (λ _. runs_done (shape_answer c 0 0 (omega arith))) (λ _. runs_done (refused c t 197 (omega arith))))
fits (set_dcbaap a) t m = let c = set_dcbaap a in formed_runs (refused c t) t (λ _. runs_done (shape_answer c 0 0 (omega arith)))
fits enable_slot t m = formed_runs (refused enable_slot t) t (λ _. enable_fits enable_slot t (those (λ id. is_free (slot_of t id)) (count t.limit 1)) refl)
fits (disable_slot id) t m =
    let c = disable_slot id in
    slot_runs (refused c t) 11 (omega arith) t id _ (λ s o. runs_last _ (freeing_fits c t id t (λ ws w g n. shape_walked c (total ws) w n g)))
fits (address_device id P bsr) t m =
    let c = address_device id P bsr in
    slot_runs (refused c t) 11 (omega arith) t id _ (λ s o. check_runs (refused c t) _ (length m) P _ (address_fits c t (length m) P bsr id s (omega arith)))
fits (configure_endpoint id P true) t m =
    let c = configure_endpoint id P true in
    slot_runs (refused c t) 11 (omega arith) t id _ (λ s o. settled_runs (refused c t) s.state (λ _. deconfigure_fits c t id s Addressed (omega arith)))
fits (configure_endpoint id P false) t m =
    let c = configure_endpoint id P false in
    slot_runs (refused c t) 11 (omega arith) t id _ (λ s o. settled_runs (refused c t) s.state (λ _. reconfigure_fits c t _ id P s (length m) (omega arith)))
fits (evaluate_context id P) t m =
    let c = evaluate_context id P in
    slot_runs (refused c t) 11 (omega arith) t id _ (λ s o. check_runs (refused c t) _ (length m) P _ (runs_done (shape_answer c 0 1 (omega arith))))
fits (reset_device id) t m =
    let c = reset_device id in
    slot_runs (refused c t) 11 (omega arith) t id _ (λ s o. settled_runs (refused c t) s.state (λ _. deconfigure_fits c t id s Default (omega arith)))
fits reset_all t m =
    formed_runs (refused reset_all t) t
    (λ _. lent_runs (refused reset_all t) t (length m) (λ _. runs_last _ (runs_map (λ ws u h. shape_answer reset_all (total ws) 0 h) (all_fits reset_all t))))
fits (stop_endpoint id i) t m = reach_fits (stop_endpoint id i) t 11 12 id i (omega arith) (omega arith) _ (omega arith)
fits (reset_endpoint id i) t m = reach_fits (reset_endpoint id i) t 11 12 id i (omega arith) (omega arith) _ (omega arith)
fits (set_dequeue id i d) t m = reach_fits (set_dequeue id i d) t 11 12 id i (omega arith) (omega arith) _ (omega arith)
fits (doorbell id i l) t m = reach_fits (doorbell id i l) t 11 12 id i (omega arith) (omega arith) _ (omega arith)
fits (host_ok id i l) t m = reach_fits (host_ok id i l) t 196 196 id i (omega arith) (omega arith) _ (omega arith)
fits (host_stall id i g) t m = reach_fits (host_stall id i g) t 196 196 id i (omega arith) (omega arith) _ (omega arith)
fits (host_transaction_error id i g) t m = reach_fits (host_transaction_error id i g) t 196 196 id i (omega arith) (omega arith) _ (omega arith)
fits (host_trb_error id i) t m = reach_fits (host_trb_error id i) t 196 196 id i (omega arith) (omega arith) _ (omega arith)

-- the shape of every answer, for every table and every memory
pub shape : (c : Call) (t : Table) (m : Mem) → (let r = run (prog c (length m) t) m 0 in Shape c r.stored r.value.0)
shape c t m =
    rw (run_count (prog c (length m) t) m 0, zero-add (total (stores (prog c (length m) t) m))) (prog_runs c t m (λ ws x. Shape c (total ws) x.0) (fits c t m))
