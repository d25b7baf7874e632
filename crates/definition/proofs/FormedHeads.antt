-- What the heads of the commands give them: a proper table is not refused for its form, the slot is in use, the context check answers no 198.
-- Assumes nothing.
use mathlib.Core.Path.{◌≡◌, refl, sym, ◌∙◌}
use mathlib.Core.Bool.{Bool, true, false, not, cond, ◌&&◌}
use Prim.Native.Nat.{ℕ, ◌+◌, ◌*◌}
use native.Mathlib.Omega.{arith}
use borrow.Author.Tests.{leb-true, eqb-true, not-true}
use lib.Dec.{leb, eqb}
use Rattle.guest.specs.Bytes.{◌⊕◌, number, type_of, set_bits}
use Rattle.guest.specs.Prog.{Prog, done, Result, ok, refuse}
use Rattle.guest.specs.Forms.{Gives}
use Rattle.guest.proofs.ListLaws.{and_left, and_right}
use Rattle.guest.proofs.RunLaws.{refuse_ok}
use Rattle.guest.proofs.FormLaws.{gives_choose, gives_need, gives_every}
use Rattle.definition.specs.Types.{Endpoint, SlotState, Free, Enabled, Default, Addressed, Configured, Slot, Table, Some, None}
use Rattle.definition.specs.Table.{is_disabled, is_free, endpoint_of, slot_of, lookup, well_formed}
use Rattle.definition.specs.Commands.{Told, formed, lent, found, on_slot, on_endpoint, check_type, context_check, settled}
use Rattle.definition.proofs.TableLaws.{IsSlot, IsEndpoint}
use Rattle.definition.proofs.FormedFacts.{clash, Proper, InUse, Fits, slot_fits}

-- a call's code is not 198, and its table is proper
abbrev pub Fine : Result Told → Type 0
Fine (ok r) = (r.0.code ≡ 198 → ⊥) × Proper r.1
Fine (refuse c) = c ≡ 198 → ⊥

-- ---- the order of checks

-- 198 does not stand before a proper table
pub formed_fine : (t : Table) (p : Prog (Result Told)) → Proper t → Gives Fine p → Gives Fine (formed t p)
unfolding formed
formed_fine t p h g =
    gives_choose Fine (well_formed t) p _ (λ e. g) (λ e. absurd (clash (well_formed t) h.formed e))

-- past 194 the memory is the table's
pub lent_fine : (t : Table) (len : ℕ) (p : Prog (Result Told)) → (t.length ≡ len → Gives Fine p) → Gives Fine (lent t len p)
unfolding lent Gives
lent_fine t len p g = gives_choose Fine (eqb t.length len) p _ (λ e. g (eqb-true _ _ e)) (λ e q. omega arith)

-- the slot of a command has an id from 1 to 16, and the memory is the table's
pub slot_fine : (absent : ℕ) (t : Table) (len id : ℕ) (f : Slot → Prog (Result Told)) → (absent ≡ 198 → ⊥) → Proper t
    → (IsSlot id → t.length ≡ len → Gives Fine (f (slot_of t id))) → Gives Fine (on_slot absent t len id f)
unfolding on_slot lookup Gives
slot_fine absent t len id f n p g = formed_fine t _ p (lent_fine t len _ (λ e. by e test refl))
  where
    test : Bool
    test = leb 1 id && leb id 16 && not (is_free (slot_of t id))

    by : t.length ≡ len → (b : Bool) → test ≡ b → Gives Fine (found (cond b (Some (slot_of t id)) None) (done (refuse absent)) f)
    by e true h =
        let both = and_left (leb 1 id && leb id 16) _ h in
        g (leb-true _ _ (and_left (leb 1 id) _ both), leb-true _ _ (and_right (leb 1 id) _ both)) e
    by e false h = n

-- the endpoint of a command is enabled
pub endpoint_fine : (absent : ℕ) (t : Table) (id i : ℕ) (f : Endpoint → Prog (Result Told)) → (absent ≡ 198 → ⊥)
    → (IsEndpoint i → is_disabled (endpoint_of t id i) ≡ false → Gives Fine (f (endpoint_of t id i))) → Gives Fine (on_endpoint absent t id i f)
unfolding on_endpoint Gives
endpoint_fine absent t id i f n g =
    let both = leb 1 i && leb i 31 in
    gives_choose Fine (both && not (is_disabled (endpoint_of t id i))) _ _
    (λ h. g (leb-true _ _ (and_left (leb 1 i) _ (and_left both _ h)), leb-true _ _ (and_right (leb 1 i) _ (and_left both _ h))) (not-true _ (and_right both _ h)))
    (λ h. n)

-- a slot that is settled has what a slot in use has
settled_fine : (st : SlotState) (s : Slot) (t : Table) (id : ℕ) (p : Prog (Result Told)) → Fits st s t id
    → (InUse t.length s.base id t → Gives Fine p) → Gives Fine (settled st p)
unfolding settled Gives
settled_fine Free s t id p f g = λ q. omega arith
settled_fine Enabled s t id p f g = λ q. omega arith
settled_fine Default s t id p f g = λ q. omega arith
settled_fine Addressed s t id p f g = g f
settled_fine Configured s t id p f g = g f

-- a command that asks for a settled slot has one
pub settled_slot_fine : (t : Table) (len id : ℕ) (f : Slot → Prog (Result Told)) → Proper t
    → (IsSlot id → t.length ≡ len → InUse t.length (slot_of t id).base id t → Gives Fine (f (slot_of t id)))
    → Gives Fine (on_slot 11 t len id (λ s. settled s.state (f s)))
settled_slot_fine t len id f p g =
    slot_fine 11 t len id _ (λ q. omega arith) p (λ h e.
    settled_fine (slot_of t id).state (slot_of t id) t id (f (slot_of t id)) (slot_fits p id h) (λ u. g h e u))

-- ---- the checks of a list

-- what a check shows where it passes, and that it refuses with no 198
abbrev pub Shows : Type 0 → Result Unit → Type 0
Shows R r = (r ≡ ok tt → R) × ((c : ℕ) → r ≡ refuse c → c ≡ 198 → ⊥)

pub shows_ok : {R : Type 0} → R → Shows R (ok tt)
shows_ok r = (λ e. r, λ c e. absurd (refuse_ok c tt (sym e)))

pub shows_refuse : (R : Type 0) (n : ℕ) → (n ≡ 198 → ⊥) → Shows R (refuse n)
shows_refuse R n h = (λ e. absurd (refuse_ok n tt e), λ c e q. h (let z : n ≡ c = cc in z ∙ q))

-- a value, or a refusal that is not 198
abbrev pub Plain : Result ℕ → Type 0
Plain (ok x) = Unit
Plain (refuse c) = c ≡ 198 → ⊥

-- the context check refuses with 17 or 193
pub context_plain : (accepts : ℕ → Bool) (len P : ℕ) → Gives Plain (context_check accepts len P)
unfolding context_check check_type Gives
context_plain accepts len P =
    gives_need Plain len (P ⊕ 4) 4 _ (λ q. omega arith)
    (λ h adds. gives_every (λ i. Unit) Plain (set_bits 31 1 (number adds)) (check_type accepts len P) _
    (λ i. gives_need (Shows Unit) len (P ⊕ (32 * (i + 1) + 4)) 1 _ (shows_refuse Unit 193 (λ q. omega arith))
    (λ k byte. gives_choose (Shows Unit) (accepts (type_of (number byte))) _ _ (λ e. shows_ok tt) (λ e. shows_refuse Unit 17 (λ q. omega arith))))
    (λ a. tt))
