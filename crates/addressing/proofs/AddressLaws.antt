-- What the code of Address Device does is what the definition's program does.
-- Assumes nothing.
use mathlib.Core.Path.{◌≡◌, refl, sym, ◌∙◌}
use mathlib.Core.Bool.{Bool, false}
use mathlib.Core.List.{List, [], ◌∷◌}
use Prim.Native.Nat.{ℕ, ◌+◌, ◌*◌, ◌≤◌}
use native.Mathlib.Nat.{add-zero}
use native.Mathlib.Omega.{arith}
use lib.ListN.{length}
use lib.Seq.{set-set}
use Rattle.guest.specs.Bytes.{number, ◌⊕◌, located, slot_state_byte}
use Rattle.guest.specs.Prog.{Mem, Prog, done, block, splice, run, Ends, Result, ok, refuse, need}
use Rattle.std.specs.Prelude as std
use Rattle.std.specs.Prelude.{Option, Some, None, Ok, Err}
use Rattle.definition.specs.declared.Refusal.{Refusal}
use Rattle.definition.specs.Refusals.{code_of}
use Rattle.guest.proofs.RunLaws.{run_get, after, ends_value, inside_yes, inside_no, need_yes, need_no, located_at, located_outside}
use Rattle.guest.proofs.SpliceLaws.{block_length}
use Rattle.definition.specs.Table.{is_disabled, endpoint_of, with_endpoint, with_slot}
use Rattle.definition.specs.Walks.{Walk, begin, terminate}
use Rattle.definition.specs.Commands.{Told, context_state, walked, Plan, fresh, again, never, plan, copy_contexts, carry_out, address_device}
use Rattle.definition.specs.Calls as calls
use Rattle.definition.specs.Calls.{meaning, prog}
use Rattle.definition.specs.Rules.{Opened}
use Rattle.definition.proofs.HeadLaws.{slot_opens}
use Rattle.definition.proofs.FormedFacts.{InUse}
use Rattle.endpoint.specs.Promises.{Terminates}
use Rattle.endpoint.specs.declared.Terminated.{Terminated}
use Rattle.contexts.specs.Checks.{Checks}
use Rattle.contexts.proofs.CheckLaws.{check_goes_on, check_refuses}
use Rattle.scan.specs.Records.{first_of}
use Rattle.scan.specs.Heads.{refusal}
use Rattle.scan.proofs.ScanLaws.{first_is}
use Rattle.scan.proofs.OpeningLaws.{refuses_with, refuses_at_once, meets_as}
use Rattle.walks.specs.declared.Launched.{Launched}
use Rattle.walks.specs.Promises.{walk, CopyLaunches}
use Rattle.walks.proofs.LaunchLaws.{copy_launch_one}
use Rattle.walks.proofs.WalkLaws.{terminate_one}
use Rattle.commands.proofs.OutcomeLaws.{carried, settles_as, opened_slot, opened_fits}
use Rattle.addressing.specs.Types.{Endpoint, SlotState, Free, Enabled, Default, Addressed, Configured, Slot, Table, Outcome}
use Rattle.addressing.specs.declared.Device.{Device}
use Rattle.commands.specs.Promises.{Carries, Answers, Settles}
use Rattle.addressing.specs.Promises.{with_first, addressed, Copies, addressing, outcome_of, Addresses}

-- ---- endpoint 1, as the code finds it in the flat run

is_with_first : (t : Table) (id : ℕ) (e : Endpoint) → with_endpoint t id 1 e ≡ with_first t id e
unfolding with_endpoint
is_with_first t id e = rw add-zero

-- ---- the copies

-- the slot context is read and stored, then the slot state byte; endpoint 1 is copied and launched
pub copied : (t : Table) (id c : ℕ) (slot : Slot) (x s : ℕ) {m : Mem} {context : List ℕ} {at : ℕ} {m₁ m₂ : Mem} {r : Launched} {m' : Mem}
    → c + 32 ≤ length m → context ≡ block m c 32 → at ≡ slot.base → m₁ ≡ splice m at context
    → m₂ ≡ splice m₁ (slot.base + 15) (slot_state_byte (context_state slot.state) ∷ []) → CopyLaunches slot.base (c + 32) 1 m₂ r m'
    → Carries (copy_contexts id c slot.base slot.state slot.entry (walk t 0 x 0)) m s
    (addressed t id (record { slot = slot; endpoint = r.endpoint; terminated = x; port = r.port; stored = s + 66 })) m'
unfolding copy_contexts run
copied t id c slot x s {m = m} {r = r} h a b d e l =
    let n : s + length (block m c 32) + 1 + 33 ≡ s + 66 = omega (arith, block_length m c 32 h) in
    let f : Walk → Result Told = λ v. ok (walked v, with_slot v.table id slot) in
    record {
      ends =
          rw (← n, ← is_with_first t id r.endpoint)
          (record { ends = (ends_value f (copy_launch_one id slot.base (c + 32) 1 (walk t 0 x 0) (rw (e, d, b, a) at l) (s + length (block m c 32) + 1))).ends });
    }

-- ---- a range that the code has sought

module _ (len a n : ℕ) {place : Option ℕ} (found : place ≡ located len a n) where
  missing : (p : Prog (Result Told)) → place ≡ None → need len a n p ≡ done (refuse 193)
  missing p o = need_no len a n p (inside_no len a n (located_outside len a n (sym found ∙ o)))

  pub lies : {i : ℕ} → place ≡ Some i → a + n ≤ len
  lies h = inside_yes len a n (located_at len a n (sym found ∙ h)).1

  there : {i : ℕ} (p : Prog (Result Told)) → place ≡ Some i → need len a n p ≡ p
  there p h = need_yes len a n p (lies h)

-- ---- a slot that is Enabled

module _ (P : ℕ) (t : Table) (id : ℕ) (slot : Slot) (next : SlotState) (m : Mem) where
  abbrev Fresh : Prog (Result Told)
  Fresh = carry_out (length m) P t id slot (fresh next)

  abbrev Copy : ℕ → Prog (Result Told)
  Copy base = copy_contexts id (P ⊕ 32) base next slot.entry (begin t)

  module _ {entry : Option ℕ} (e : entry ≡ located (length m) slot.entry 8) where
    pub fresh_no_entry : entry ≡ None → Settles Fresh t m (refusal t 193) m
    unfolding carry_out
    fresh_no_entry o = refuses_at_once t m (missing _ _ _ e _ o)

    module _ {at base address : ℕ} {input : Option ℕ} (h : entry ≡ Some at) (b : base ≡ number (block m at 8)) (a : address ≡ P ⊕ 32) (f : input ≡ located (length m) address 64) where
      abbrev Sought : Prog (Result Told)
      Sought = need (length m) (P ⊕ 32) 64 (need (length m) base 64 (Copy base))

      fresh_base : run Fresh m 0 ≡ run Sought m 0
      unfolding carry_out
      fresh_base = rw (there _ _ _ e _ h, run_get, b, (located_at (length m) slot.entry 8 (sym e ∙ h)).0)

      pub fresh_no_input : input ≡ None → Settles Fresh t m (refusal t 193) m
      fresh_no_input o = settles_as t Fresh Sought fresh_base (refuses_at_once t m (missing _ _ _ (f ∙ rw a) _ o))

      module _ {from : ℕ} {device : Option ℕ} (i : input ≡ Some from) (g : device ≡ located (length m) base 64) where
        pub fresh_no_device : device ≡ None → Settles Fresh t m (refusal t 193) m
        fresh_no_device o = settles_as t Fresh Sought fresh_base (refuses_at_once t m (there _ _ _ (f ∙ rw a) _ i ∙ missing _ _ _ g _ o))

        pub fresh_goes : {d : ℕ} {r : Outcome} {m' : Mem} → device ≡ Some d → Carries (copy_contexts id from base next slot.entry (walk t 0 0 0)) m 0 r m' → Settles Fresh t m r m'
        fresh_goes d w =
            settles_as t Fresh Sought fresh_base
            (meets_as t (there _ _ _ (f ∙ rw a) _ i ∙ there _ _ _ g _ d) (carried t (rw ((located_at (length m) address 64 (sym f ∙ i)).0, a) at w)))

-- ---- a slot that is Default

module _ (P : ℕ) (t : Table) (id : ℕ) (slot : Slot) (next : SlotState) (m : Mem) {address : ℕ} {input : Option ℕ} (a : address ≡ P ⊕ 32) (f : input ≡ located (length m) address 64) where
  pub again_no_input : input ≡ None → Settles (carry_out (length m) P t id slot (again next)) t m (refusal t 193) m
  unfolding carry_out
  again_no_input o = refuses_at_once t m (missing _ _ _ (f ∙ rw a) _ o)

  pub again_goes : {from : ℕ} {e : Endpoint} {gone : Terminated} {m₁ : Mem} (d : Device) {m' : Mem} → input ≡ Some from → slot.base + 64 ≤ length m
      → is_disabled e ≡ false → Terminates e (slot.base ⊕ 32 * 1) m gone m₁
      → Copies from (record { state = next; base = slot.base; entry = slot.entry }) 2 m₁ gone.stored d m' → first_of t id ≡ e
      → Settles (carry_out (length m) P t id slot (again next)) t m (addressed t id d) m'
  unfolding carry_out
  again_goes {from} {e} {gone} {m₁} d {m'} i h off g w q =
      let one : gone.stored ≡ 1 = g.count ∙ rw off in
      let g₁ : Terminates (endpoint_of t id 1) (slot.base ⊕ 32 * 1) m gone m₁ = rw (first_is, q) g in
      let k : Ends (terminate id slot.base 1 (begin t)) m 0 (walk (with_first t id gone.endpoint) 0 2 0) m₁ 1 =
      rw (is_with_first, one) at (terminate_one id slot.base 1 (begin t) g₁ 0) in
      let v : Carries (copy_contexts id (P ⊕ 32) slot.base next slot.entry (walk (with_first t id gone.endpoint) 0 2 0)) m₁ 1 (addressed t id d) m' =
      rw (set-set, (located_at (length m) address 64 (sym f ∙ i)).0, a, one) at (w id (with_first t id gone.endpoint)) in
      meets_as t (there _ _ _ (f ∙ rw a) _ i ∙ need_yes _ _ _ _ h)
      (carried t (record { ends = record { ends = after (λ w. copy_contexts id (P ⊕ 32) slot.base next slot.entry w) k ∙ v.ends.ends } }))

-- ---- the plan

-- a state and a flag that are known
pub plan_in : {state at : SlotState} {bsr is : Bool} → state ≡ at → bsr ≡ is → plan state bsr ≡ plan at is
plan_in e f = cc

-- the states that no arm names
pub plan_other : (state : SlotState) (bsr : Bool) → (state ≡ Enabled → ⊥) → (state ≡ Default → ⊥) → plan state bsr ≡ never
unfolding plan
plan_other Free bsr e d = refl
plan_other Enabled bsr e d = absurd (e refl)
plan_other Default bsr e d = absurd (d refl)
plan_other Addressed bsr e d = refl
plan_other Configured bsr e d = refl

-- ---- the whole

-- what `attempt` asks: endpoint 1 of a Default slot is enabled, and its device context begins in memory
pub default_fits : {t : Table} {m : Mem} {id : ℕ} {s : Slot} → Opened t m id s → {first : Endpoint} → first ≡ first_of t id
    → s.state ≡ Default → (s.base + 64 ≤ length m) × (is_disabled first ≡ false)
default_fits {t} {m} {id} {s} o q d =
    let k = opened_slot o in
    let u : InUse t.length s.base id t = rw d at (opened_fits o) in
    (omega (arith, u.room, k.size), rw q (rw first_is at u.first))

module _ (s : Slot) (P : ℕ) (bsr : Bool) (m : Mem) {checked : std.Result ℕ Refusal} (w : Checks P m checked) (id : ℕ) (t : Table) where
  abbrev Whole : Prog (Result Told)
  Whole = addressing s P bsr (length m) t id

  -- the context check refuses; it passes, and the plan is carried out; the plan is never
  pub attempt_unchecked : {c : Refusal} → checked ≡ Err c → Settles Whole t m (refusal t (code_of c)) m
  attempt_unchecked e = refuses_with t (check_refuses P m _ w e)

  pub attempt_goes : {adds : ℕ} {p : Plan} {r : Outcome} {m' : Mem} → checked ≡ Ok adds → plan s.state bsr ≡ p
      → Settles (carry_out (length m) P t id s p) t m r m' → Settles Whole t m r m'
  attempt_goes e q h = settles_as t _ _ (check_goes_on P m _ w e) (rw q h)

  pub attempt_never : {adds : ℕ} → checked ≡ Ok adds → plan s.state bsr ≡ never → Settles Whole t m (refusal t 19) m
  unfolding carry_out
  attempt_never e q = attempt_goes e q (refuses_at_once t m refl)

-- on a slot that was found
pub device_answers : {t : Table} {m : Mem} {id : ℕ} {s : Slot} → Opened t m id s → {first : Endpoint} → first ≡ first_of t id
    → (P : ℕ) (bsr : Bool) (k : std.Result Device Refusal) {k' : std.Result Device Refusal} {m' : Mem} → Addresses first (addressing s P bsr) m k m' → k ≡ k'
    → Answers (calls.address_device id P bsr) t m (outcome_of t id k') m'
unfolding prog meaning address_device
device_answers {t} {m} {id} {s} o q P bsr k h e = meets_as t (slot_opens 11 t id _ m s o) (rw (← e) (h id t (sym q)))
