-- A call that reaches one endpoint, its slot being found: each way out; and what its caller has of it.
-- Assumes nothing.
use mathlib.Core.Path.{◌≡◌, refl, sym, ap, ◌∙◌}
use mathlib.Core.Bool.{Bool, true, false, not, cond, ◌&&◌}
use Prim.Native.Nat.{ℕ, ◌*◌, ◌≤◌}
use native.Mathlib.Omega.{arith}
use borrow.Author.Tests.{leb-true, le-leb}
use lib.Dec.{leb}
use lib.ListN.{length}
use Rattle.std.specs.Prelude as std
use Rattle.std.specs.Int.{from_bool}
use Rattle.std.specs.Prelude.{Option, Some, None, Ok, Err}
use Rattle.guest.specs.Bytes.{◌⊕◌}
use Rattle.definition.specs.declared.Refusal.{Refusal}
use Rattle.definition.specs.Refusals.{code_of}
use Rattle.guest.specs.Prog.{Mem, Prog, done, Result, ok, and_then}
use Rattle.guest.proofs.RunLaws.{choose_yes, choose_no, passes, refuses, run_done}
use Rattle.guest.proofs.ListLaws.{and_left, and_right}
use Rattle.definition.specs.Table.{is_disabled, disabled, endpoint_of, slot_of, with_endpoint, well_formed}
use Rattle.definition.specs.Steps.{step}
use Rattle.definition.specs.Commands.{Told, on_endpoint, stepped}
use Rattle.definition.proofs.FormedFacts.{clash, ok_enabled, formed_fits, fits_serve}
use Rattle.endpoint.specs.declared.Taken.{Taken}
use Rattle.endpoint.specs.Promises.{Ready, Takes}
use Rattle.endpoint.proofs.PromiseLaws.{goes_on, is_refused}
use Rattle.scan.specs.Heads.{record_at, refusal}
use Rattle.scan.proofs.ScanLaws.{record_is}
use Rattle.scan.proofs.OpeningLaws.{refuses_at_once, refuses_with, meets_ok, meets_as}
use Rattle.commands.specs.Types.{Endpoint, Slot, Table, Input}
use Rattle.commands.specs.Promises.{reaching, applied_to, settled_to, Settles, Reaches}

-- a flag as a number of the answer
pub one_if : (b : Bool) → from_bool b ≡ cond b 1 0
one_if true = refl
one_if false = refl

none_some : (x : std.Result Taken Refusal) → ◌≡◌ {A = Option (std.Result Taken Refusal)} None (Some x) → ⊥
none_some x h = let z : ◌≡◌ {A = ℕ} 0 1 = cc in omega arith

-- ---- the record of endpoint i of slot id

pub own_record : (t : Table) (id i : ℕ) → 1 ≤ i → i ≤ 31 → endpoint_of t id i ≡ record_at t id i
own_record t id i a b = sym (record_is t id i (simp (le-leb 1 i a, le-leb i 31 b)))

-- one that is enabled is of an endpoint
pub record_found : (t : Table) (id i : ℕ) {e : Endpoint} → e ≡ record_at t id i → is_disabled e ≡ false → (1 ≤ i) × (i ≤ 31)
unfolding record_at
record_found t id i q d = by (leb 1 i && leb i 31) refl (sym (ap is_disabled q) ∙ d)
  where
    by : (b : Bool) → (leb 1 i && leb i 31) ≡ b → is_disabled (cond b (endpoint_of t id i) disabled) ≡ false → (1 ≤ i) × (i ≤ 31)
    by true h d = (leb-true _ _ (and_left (leb 1 i) _ h), leb-true _ _ (and_right (leb 1 i) _ h))
    by false h d = absurd (clash true refl d)

-- what `settle` asks: an enabled endpoint of a well formed table may take a step
pub settle_ready : (t : Table) (id i : ℕ) (s : Slot) (m : Mem) → well_formed t ≡ true → t.length ≡ length m → 1 ≤ id → id ≤ 16 → slot_of t id ≡ s
    → {e : Endpoint} → e ≡ record_at t id i → is_disabled e ≡ false → (i ≤ 31) × Ready e (s.base ⊕ 32 * i) m
settle_ready t id i s m f n a b z {e} q d =
    let h = record_found t id i q d in
    let is : endpoint_of t id i ≡ e = own_record t id i h.0 h.1 ∙ sym q in
    let serves = fits_serve (slot_of t id).state (slot_of t id) t id (formed_fits t f id (a, b)) i h in
    let k = rw (is, z) at (ok_enabled t.length (slot_of t id).base i (endpoint_of t id i) serves (ap is_disabled is ∙ d)) in
    (h.1, record { inside = omega (arith, k.0); aligned = k.1 })

-- ---- each way out

module _ (absent : ℕ) (t : Table) (id i : ℕ) (input : Input) (s : Slot) (m : Mem) where
  -- "endpoint id 0, above 31, or disabled"
  absent_at : (leb 1 i && leb i 31 && not (is_disabled (endpoint_of t id i))) ≡ false → Settles (reaching absent id i input s t) t m (refusal t absent) m
  unfolding on_endpoint
  absent_at e = refuses_at_once t m (choose_no _ _ _ e)

  pub reach_outside : (leb 1 i && leb i 31) ≡ false → Settles (reaching absent id i input s t) t m (refusal t absent) m
  reach_outside e = absent_at (rw e refl)

  module _ {e : Endpoint} (q : record_at t id i ≡ e) where
    pub reach_disabled : is_disabled e ≡ true → Settles (reaching absent id i input s t) t m (refusal t absent) m
    unfolding record_at
    reach_disabled d = absent_at (by (leb 1 i && leb i 31) (ap is_disabled q ∙ d))
      where
        by : (b : Bool) → is_disabled (cond b (endpoint_of t id i) disabled) ≡ true → (b && not (is_disabled (endpoint_of t id i))) ≡ false
        by true d = rw d
        by false d = refl

    -- the endpoint is enabled
    module _ (d : is_disabled e ≡ false) where
      abbrev After : Prog (Result Told)
      After = and_then (step e input (s.base ⊕ 32 * i)) λ r. done (ok (stepped r, with_endpoint t id i r.endpoint))

      enabled_at : reaching absent id i input s t ≡ After
      unfolding on_endpoint
      enabled_at =
          let h = record_found t id i (sym q) d in
          let is : endpoint_of t id i ≡ e = own_record t id i h.0 h.1 ∙ q in
          rw is (choose_yes _ _ _ (simp (le-leb 1 i h.0, le-leb i 31 h.1, d)))

      -- the step is refused
      reach_refused : {x : Refusal} {m' : Mem} → Takes (step e input (s.base ⊕ 32 * i)) m (Err x) m' → Settles (reaching absent id i input s t) t m (refusal t (code_of x)) m'
      reach_refused k =
          let same = k.kept in
          rw same (meets_as t enabled_at (refuses_with t (refuses (λ r. done (ok (stepped r, with_endpoint t id i r.endpoint))) (rw same at (is_refused k)))))

      -- the step is taken
      reach_taken : {r : Taken} {m' : Mem} → Takes (step e input (s.base ⊕ 32 * i)) m (Ok r) m' → Settles (reaching absent id i input s t) t m (applied_to t id i r) m'
      reach_taken {r} {m'} k =
          meets_as t enabled_at
          (meets_ok t (record { ends = passes (λ r. done (ok (stepped r, with_endpoint t id i r.endpoint))) (goes_on k) ∙ run_done _ m' r.stored }))

-- ---- what `settle` gives

module _ {e : Endpoint} (s : Slot) (i : ℕ) (input : Input) {m : Mem} where
  pub settled_disabled : is_disabled e ≡ true → Reaches e s i input m None m
  settled_disabled d = record { answers = λ absent id t q. reach_disabled absent t id i input s m q d; enabled = λ x h. absurd (none_some x h) }

  pub settled_stepped : is_disabled e ≡ false → (r : std.Result Taken Refusal) {m' : Mem} → Takes (step e input (s.base ⊕ 32 * i)) m r m' → Reaches e s i input m (Some r) m'
  settled_stepped d r {m'} k = record { answers = λ absent id t q. by r k absent id t q; enabled = λ x h. d }
    where
      by : (r : std.Result Taken Refusal) → Takes (step e input (s.base ⊕ 32 * i)) m r m' → (absent id : ℕ) (t : Table) → record_at t id i ≡ e
          → Settles (reaching absent id i input s t) t m (settled_to absent t id i (Some r)) m'
      by (Ok r) k absent id t q = reach_taken absent t id i input s m q d k
      by (Err x) k absent id t q = reach_refused absent t id i input s m q d k

-- ---- what its caller has of it

module _ {e : Endpoint} {s : Slot} {i : ℕ} {input : Input} {m : Mem} {r : Option (std.Result Taken Refusal)} {m' : Mem} (k : Reaches e s i input m r m') (absent id : ℕ) (t : Table) (q : e ≡ record_at t id i) where
  pub reach_absent : r ≡ None → Settles (reaching absent id i input s t) t m (refusal t absent) m'
  reach_absent h = rw h at (k.answers absent id t (sym q))

  module _ {y : std.Result Taken Refusal} (there : r ≡ Some y) where
    pub reach_refuses : {x : Refusal} → y ≡ Err x → Settles (reaching absent id i input s t) t m (refusal t (code_of x)) m'
    reach_refuses h = rw (there, h) at (k.answers absent id t (sym q))

    pub reach_applies : {x : Taken} → y ≡ Ok x → Settles (reaching absent id i input s t) t m (applied_to t id i x) m'
    reach_applies h = rw (there, h) at (k.answers absent id t (sym q))

    -- what `applied` asks
    pub reach_found : (1 ≤ i) × (i ≤ 31)
    reach_found = record_found t id i q (k.enabled y there)
