-- What a launched endpoint holds: pointer and cycle of the dequeue word in its input context, as memory stood before the call,
-- where no byte of that word is stored to before the context is read.
-- Assumes nothing.
use mathlib.Core.Path.{◌≡◌, refl, sym, ap, subst, ◌∙◌}
use mathlib.Core.Logic.{◌⊎◌, inl, inr, ⊎_elim}
use mathlib.Core.Bool.{Bool, true, false}
use mathlib.Core.List.{List, [], ◌∷◌, ◌++◌}
use Prim.Native.Nat.{ℕ, ◌+◌, ◌*◌, ◌^◌, ◌≤◌, ◌<◌}
use native.Mathlib.Omega.{arith}
use native.Mathlib.Decide.{ℕ_discrete}
use lib.ListN.{length}
use lib.Pow.{pow_mono}
use Rattle.guest.specs.Bytes.{number, ◌⊕◌, count, set_bits, bit, slot_state_byte}
use Rattle.guest.specs.Prog.{Mem, block, splice, run, Within, Store, Touched, refuse}
use Rattle.guest.proofs.ListLaws.{All, In, all_map, those_all, those_in, count_all, count_in, all_head, all_both, in_cases, in_none}
use Rattle.guest.proofs.ReadLaws.{applied, applied_length, applied_append}
use Rattle.guest.proofs.StoreLaws.{block_kept, Runs, store, touched_append}
use Rattle.definition.specs.Types.{Endpoint, Enabled, Default, Slot, Table, Answer}
use Rattle.definition.specs.Table.{is_disabled, disabled, endpoint_of, slot_of, with_endpoint, well_formed}
use Rattle.definition.specs.Walks.{Walk}
use Rattle.definition.specs.Commands as commands
use Rattle.definition.specs.Commands.{Told, usb_types, context_state}
use Rattle.definition.specs.Calls.{address_device, configure_endpoint, meaning, told, prog}
use Rattle.definition.proofs.TableLaws.{Sized, IsSlot, sized_endpoint, endpoint_here, endpoint_other, endpoint_slot, slot_here}
use Rattle.definition.proofs.MaskLaws.{Ascends, ascends_head, bits_ascend, mask_low, bit_of, bit_added, bit_stays, bit_zero}
use Rattle.definition.proofs.CountLaws.{launch_word, context_stores, Dropping, Adding, Starts, fresh_base, kept_base, kept_ended, half, waiting, slot_runs, check_runs, settled_runs, reconfigure_runs, address_runs, prog_runs}
use Rattle.definition.proofs.FormedFacts.{formed_length}
use Rattle.definition.proofs.EndedLaws.{Known, known}

-- what is shown of a call that succeeds; a refusal does not
Success : (Answer → Table → Type 0) → Told → Type 0
Success R x = x.0.code ≡ 1 → R x.0 x.1

refused : (R : Answer → Table → Type 0) (t : Table) (c : ℕ) → 2 ≤ c → Success R (told t (refuse c))
unfolding Success
refused R t c h e = absurd (omega arith)

-- ---- Address Device

-- x is stored to before endpoint 1's context is read: the slot context at base, and in Default the state byte of endpoint 1, which is ended
abbrev pub SlotFirst : Table → ℕ → ℕ → ℕ → Type 0
SlotFirst t id base x = Within base 32 x ⊎ (((slot_of t id).state ≡ Default) × (x ≡ base + 32))

-- Address Device by the input context at P took t to u and answered a with success
pub record Addresses (t : Table) (m : Mem) (id P : ℕ) (a : Answer) (u : Table) : Type 0 where
  pub launched : a.launched ≡ 2
  pub fresh : (slot_of t id).state ≡ Enabled → (slot_of u id).base ≡ number (block m (slot_of t id).entry 8)
  pub holds : (let word = (P ⊕ 32) + 32 + 8 in
      ((x : ℕ) → Within word 8 x → SlotFirst t id (slot_of u id).base x → ⊥) → endpoint_of u id 1 ≡ waiting (block m word 8))

-- a word outside the device context is not stored to
pub slot_apart : (t : Table) (id base word : ℕ) → (word + 8 ≤ base) ⊎ (base + 1024 ≤ word) → (x : ℕ) → Within word 8 x → SlotFirst t id base x → ⊥
slot_apart t id base word apart x w (inl v) = ⊎_elim (λ l. omega arith) (λ l. omega arith) apart
slot_apart t id base word apart x w (inr v) = ⊎_elim (λ l. omega arith) (λ l. omega arith) apart

module _ (t : Table) (m : Mem) (id P : ℕ) (z : Sized t) where
  abbrev FirstWord : ℕ
  FirstWord = (P ⊕ 32) + 32 + 8

  abbrev First : Answer → Table → Type 0
  First = Addresses t m id P

  module _ (s : Slot) (k : Known t m id s) where
    -- what is known once Address Device has begun
    record Begun (ws : List Store) (base : ℕ) (w : Walk) : Type 0 where
      sized : Sized w.table
      launched : w.launched ≡ 0
      fresh : (slot_of t id).state ≡ Enabled → base ≡ number (block m (slot_of t id).entry 8)
      before : (x : ℕ) → Touched ws x → SlotFirst t id base x

    same_state : (slot_of t id).state ≡ s.state
    same_state = ap (λ (r : Slot). r.state) k.same

    began : {ws : List Store} {base : ℕ} {w : Walk} → base ≤ 2 ^ 30 → Starts m id s t ws base w → Begun ws base w
    unfolding Touched
    began low (fresh_base e) = record { sized = z; launched = refl; fresh = λ q. rw k.same; before = λ x h. absurd h }
    began low (kept_base e) = record { sized = z; launched = refl; fresh = λ q. cc same_state; before = λ x h. absurd h }
    began low (kept_ended e) =
        record {
          sized = sized_endpoint t id 1 disabled z;
          launched = refl;
          fresh = λ q. cc same_state;
          before = λ x h. ⊎_elim (λ w. inr (same_state ∙ e, omega arith)) (λ q. absurd q) h;
        }

    first_runs : (bsr : Bool) → t.length ≡ length m → well_formed t ≡ true
        → Runs (commands.carry_out (length m) P t id s (commands.plan s.state bsr)) m (λ ws r. Success First (told t r))
    unfolding Success applied
    first_runs bsr size f =
        address_runs id s t (refused First t) (length m) P bsr
        (λ ws base nxt w b _ p h e.
        let low : base ≤ 2 ^ 30 = omega (arith, formed_length t f) in
        let known = began low b in
        let slot : Slot = record { state = nxt; base = base; entry = s.entry } in
        let set = slot_here _ id slot (sized_endpoint w.table id 1 _ known.sized) k.is in
        record {
          launched = omega (arith, known.launched);
          fresh = λ q. ap (λ (r : Slot). r.base) set ∙ known.fresh q;
          holds = λ clear.
              let byte = slot_state_byte (context_state nxt) in
              let two : List Store = store base (block (applied m ws) (P ⊕ 32) 32) ∷ store (base + 15) (byte ∷ []) ∷ [] in
              let n : Mem = half (applied m ws) (P ⊕ 32) base nxt in
              let same : applied m (ws ++ two) ≡ n = applied_append ws two m in
              let long : length n ≡ length m = sym (ap length same) ∙ applied_length (ws ++ two) m in
              let kept : block n FirstWord 8 ≡ block m FirstWord 8 = rw same at (block_kept m (ws ++ two) FirstWord 8
              (λ x v q. clear x v (subst (λ (r : Slot). SlotFirst t id r.base x) (sym set)
              (⊎_elim (known.before x)
              (λ d. inl (context_stores (applied m ws) (P ⊕ 32) base (base + 15) byte x (omega arith) (omega arith) d)) (touched_append ws two x q))))) in
              endpoint_slot _ id slot id 1
              ∙ endpoint_here w.table id 1 _ known.sized k.is (omega arith)
              ∙ ap waiting (launch_word n (base ⊕ 32 * 1) ((P ⊕ 32) + 32) (omega arith) (omega arith) ∙ kept);
        })

-- endpoint 1 after Address Device
pub addressed : (id P : ℕ) (bsr : Bool) (t : Table) (m : Mem) → Sized t
    → (let r = (run (prog (address_device id P bsr) (length m) t) m 0).value in r.0.code ≡ 1 → Addresses t m id P r.0 r.1)
unfolding meaning commands.address_device Success
addressed id P bsr t m z =
    prog_runs (address_device id P bsr) t m (λ ws x. Success (First t m id P z) x)
    (slot_runs (refused (First t m id P z) t) 11 (omega arith) t id _
    (λ s o. check_runs (refused (First t m id P z) t) _ (length m) P _ (first_runs t m id P z s (known t m id s o) bsr o.size o.formed)))

-- ---- Configure Endpoint

-- the flags of the input context at P: endpoint j, of 2 to 31, is dropped; it is added
abbrev pub Dropped : Mem → ℕ → ℕ → Type 0
Dropped m P j = (2 ≤ j) × (j ≤ 31) × (bit (number (block m P 4)) j ≡ true)

abbrev pub Added : Mem → ℕ → ℕ → Type 0
Added m P j = (2 ≤ j) × (j ≤ 31) × (bit (number (block m (P ⊕ 4) 4)) j ≡ true)

-- x is stored to before the context of endpoint i is read: the state byte of each endpoint that is ended, the context of each that is added before i
pub data Before (t : Table) (m : Mem) (id P i x : ℕ) : Type 0 where
  by_drop : (j : ℕ) → Dropped m P j → is_disabled (endpoint_of t id j) ≡ false → x ≡ (slot_of t id).base ⊕ 32 * j → Before t m id P i x
  by_add : (j : ℕ) → Added m P j → j < i → Within ((slot_of t id).base ⊕ 32 * j) 32 x → Before t m id P i x

-- Configure Endpoint, DC=0, by the input context at P took t to u and answered a with success: it launched the added endpoints and no other
pub record Configures (t : Table) (m : Mem) (id P : ℕ) (a : Answer) (u : Table) : Type 0 where
  pub launched : (i : ℕ) → Added m P i → bit a.launched i ≡ true
  pub added : (i : ℕ) → bit a.launched i ≡ true → Added m P i
  pub holds : (i : ℕ) → Added m P i
      → (let word = (P ⊕ 32 * (i + 1)) + 8 in
      ((x : ℕ) → Within word 8 x → Before t m id P i x → ⊥) → endpoint_of u id i ≡ waiting (block m word 8))

-- a word outside the device context is not stored to
pub before_apart : (t : Table) (m : Mem) (id P i word : ℕ) → (slot_of t id).base ≤ 2 ^ 30
    → (word + 8 ≤ (slot_of t id).base) ⊎ ((slot_of t id).base + 1024 ≤ word) → (x : ℕ) → Within word 8 x → Before t m id P i x → ⊥
before_apart t m id P i word low apart x w (by_drop j d e q) = ⊎_elim (λ l. omega arith) (λ l. omega arith) apart
before_apart t m id P i word low apart x w (by_add j a l v) = ⊎_elim (λ l. omega arith) (λ l. omega arith) apart

-- what is stored before i is stored before what comes after i
before_up : {t : Table} {m : Mem} {id P i x : ℕ} (k : ℕ) → i ≤ k → Before t m id P i x → Before t m id P k x
before_up k h (by_drop j d e q) = by_drop j d e q
before_up k h (by_add j a l w) = by_add j a (omega arith) w

-- the endpoints that a flag word names
flags : (x : ℕ) → All (λ j. (2 ≤ j) × (j ≤ 31) × (bit x j ≡ true)) (set_bits 30 2 x)
flags x = all_map (λ j h. (h.0.0, h.0.1, h.1)) (those_all (λ j. (2 ≤ j) × (j ≤ 31)) (bit x) (count 30 2) (count_all _ 30 2 (λ j a b. (a, omega arith))))

module _ (t : Table) (m : Mem) (id P : ℕ) (z : Sized t) where
  abbrev WordAt : ℕ → ℕ
  WordAt i = (P ⊕ 32 * (i + 1)) + 8

  -- endpoint i of the table u holds what its input context says
  Holds : ℕ → Table → Type 0
  Holds i u = ((x : ℕ) → Within (WordAt i) 8 x → Before t m id P i x → ⊥) → endpoint_of u id i ≡ waiting (block m (WordAt i) 8)

  abbrev Later : Answer → Table → Type 0
  Later = Configures t m id P

  -- on the way down the drops
  record Dropping-on (is : List ℕ) (ws : List Store) (w : Walk) : Type 0 where
    from : ℕ
    ascends : Ascends 32 from is
    left : All (Dropped m P) is
    sized : Sized w.table
    ahead : (j : ℕ) → from ≤ j → endpoint_of w.table id j ≡ endpoint_of t id j
    stored : (x : ℕ) → Touched ws x → Before t m id P 0 x
    none_yet : w.launched ≡ 0

  -- on the way down the adds
  record Adding-on (is : List ℕ) (ws : List Store) (w : Walk) : Type 0 where
    from : ℕ
    ascends : Ascends 32 from is
    left : All (λ i. Added m P i × (((P ⊕ 32 * (i + 1)) + 32 ≤ length m) × (((slot_of t id).base ⊕ 32 * i) + 32 ≤ length m))) is
    sized : Sized w.table
    stored : (x : ℕ) → Touched ws x → Before t m id P from x
    low : w.launched < 2 ^ from
    only : (j : ℕ) → bit w.launched j ≡ true → Added m P j
    done : (j : ℕ) → Added m P j → In j is ⊎ ((bit w.launched j ≡ true) × Holds j w.table)

  drops_on : Dropping id (slot_of t id).base Dropping-on
  unfolding Touched
  drops_on =
      record {
        skip = λ i is ws w d. let h = ascends_head d.ascends in record {
          from = i + 1;
          ascends = h.1;
          left = (all_head d.left).1;
          sized = d.sized;
          ahead = λ j q. d.ahead j (omega arith);
          stored = d.stored;
          none_yet = d.none_yet;
        };
        go = λ i is ws w d e. let h = ascends_head d.ascends in let a = all_head d.left in record {
          from = i + 1;
          ascends = h.1;
          left = a.1;
          sized = sized_endpoint w.table id i disabled d.sized;
          ahead = λ j q. endpoint_other w.table id i j disabled (omega arith) (omega arith) (λ f. omega arith) ∙ d.ahead j (omega arith);
          stored = λ x q. ⊎_elim (d.stored x)
              (⊎_elim (λ v. by_drop i a.0 (rw (← d.ahead i h.0) e) (omega arith)) (λ v. absurd v)) (touched_append ws _ x q);
          none_yet = d.none_yet;
        };
      }

  module _ (n : IsSlot id) (i : ℕ) (is : List ℕ) (ws : List Store) (w : Walk) (d : Adding-on (i ∷ is) ws w) where
    abbrev At : ℕ
    At = (slot_of t id).base ⊕ 32 * i

    -- the endpoint that this turn adds
    abbrev Made : Endpoint
    Made = waiting (block (splice (splice (applied m ws) At (block (applied m ws) (P ⊕ 32 * (i + 1)) 32)) At (1 ∷ [])) (At + 8) 8)

    made_holds : Holds i (with_endpoint w.table id i Made)
    unfolding Holds
    made_holds clear =
        let h = ascends_head d.ascends in
        let a = (all_head d.left).0 in
        let long : length (applied m ws) ≡ length m = applied_length ws m in
        endpoint_here w.table id i Made d.sized n (omega arith)
        ∙ ap waiting (launch_word (applied m ws) At (P ⊕ 32 * (i + 1)) (omega arith) (omega arith)
        ∙ block_kept m ws (WordAt i) 8 (λ x v q. clear x v (before_up i h.0 (d.stored x q))))

    low_here : w.launched < 2 ^ i
    low_here = omega (arith, d.low, pow_mono (ascends_head d.ascends).0)

    Done : ℕ → Type 0
    Done j = (bit (w.launched + 2 ^ i) j ≡ true) × Holds j (with_endpoint w.table id i Made)

    done_next : (j : ℕ) → Added m P j → In j is ⊎ Done j
    unfolding Holds Done
    done_next j f = ⊎_elim (λ p. ⊎_elim (λ e. inr (now e)) inl (in_cases p)) (λ g. inr (by (ℕ_discrete j i) g)) (d.done j f)
      where
        now : j ≡ i → Done j
        now e = subst Done (sym e) (bit_added i w.launched low_here, made_holds)

        by : Dec (j ≡ i) → (bit w.launched j ≡ true) × Holds j w.table → Done j
        by (yes e) g = now e
        by (no e) g = (
          bit_stays i w.launched j low_here g.0,
          λ clear. endpoint_other w.table id i j Made (omega (arith, (all_head d.left).0)) (omega arith) e ∙ g.1 clear,
        )

  adds_on : IsSlot id → Adding m id P (slot_of t id).base Adding-on
  unfolding Done
  adds_on n =
      record {
        turn = λ i is ws w d. let h = ascends_head d.ascends in let a = all_head d.left in record {
          from = i + 1;
          ascends = h.1;
          left = a.1;
          sized = sized_endpoint w.table id i _ d.sized;
          stored = λ x q. ⊎_elim (λ v. before_up (i + 1) (omega arith) (d.stored x v))
              (λ v. by_add i a.0.0 (omega arith) (context_stores (applied m ws) (P ⊕ 32 * (i + 1)) _ _ 1 x (omega arith) (omega arith) v))
              (touched_append ws _ x q);
          low = mask_low i w.launched (low_here n i is ws w d);
          only = λ j e. ⊎_elim (λ q. subst (Added m P) (sym q) a.0.0) (d.only j) (bit_of i w.launched j (low_here n i is ws w d) e);
          done = done_next n i is ws w d;
        };
      }

  -- no endpoint is left to add
  finished : {ws : List Store} {w : Walk} → Adding-on [] ws w → (j : ℕ) → Added m P j → (bit w.launched j ≡ true) × Holds j w.table
  finished d j f = ⊎_elim (λ q. absurd (in_none q)) (λ h. h) (d.done j f)

  later_runs : IsSlot id → (accepts : ℕ → Bool) → Runs (commands.reconfigure accepts id P (slot_of t id) (length m) t) m (λ ws r. Success Later (told t r))
  unfolding Success Holds Touched
  later_runs n accepts =
      reconfigure_runs id (slot_of t id) t (refused Later t) accepts (length m) P drops_on (adds_on n)
      (λ a ws w d. record {
        from = 2;
        ascends = bits_ascend 30 2 _;
        left = all_both (flags _) a;
        sized = d.sized;
        stored = λ x q. before_up 2 (omega arith) (d.stored x q);
        low = omega (arith, d.none_yet);
        only = λ j e. absurd (bit_zero j (subst (λ (x : ℕ). bit x j ≡ true) d.none_yet e));
        done = λ j f. inl (those_in _ (count_in 30 2 j f.0 (omega arith)) f.2);
      })
      (record { from = 2; ascends = bits_ascend 30 2 _; left = flags _; sized = z; ahead = λ j _. refl; stored = λ x q. absurd q; none_yet = refl })
      (λ ws w d e. record {
        launched = λ i f. (finished d i f).0;
        added = d.only;
        holds = λ i f clear. endpoint_slot w.table id _ id i ∙ (finished d i f).1 clear;
      })

-- the endpoints that Configure Endpoint with DC=0 launches
pub configured : (id P : ℕ) (t : Table) (m : Mem) → Sized t
    → (let r = (run (prog (configure_endpoint id P false) (length m) t) m 0).value in r.0.code ≡ 1 → Configures t m id P r.0 r.1)
unfolding meaning commands.configure_endpoint Success
configured id P t m z =
    prog_runs (configure_endpoint id P false) t m (λ ws x. Success (Later t m id P z) x)
    (slot_runs (refused (Later t m id P z) t) 11 (omega arith) t id _
    (λ s o. settled_runs (refused (Later t m id P z) t) s.state
    (λ _.
    let k = known t m id s o in
    subst (λ (r : Slot). Runs (commands.reconfigure usb_types id P r (length m) t) m (λ ws x. Success (Later t m id P z) (told t x))) k.same
    (later_runs t m id P z k.is usb_types))))
