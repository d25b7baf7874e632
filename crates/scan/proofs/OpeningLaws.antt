-- What a call may cite of its beginning: each refusal as its outcome, and each way past the checks. `telling t p` is what the definition makes of a call's
-- meaning p: `prog c len t` is `telling t (meaning c len t)`.
-- Assumes nothing.
use mathlib.Core.Path.{◌≡◌, refl, sym, ap, ◌∙◌}
use mathlib.Core.Bool.{Bool, true, false}
use Prim.Native.Nat.{ℕ, ◌≤◌}
use native.Mathlib.Omega.{arith}
use borrow.Author.Tests.{eqb-true, eq-eqb}
use lib.Dec.{eqb}
use Rattle.guest.specs.Prog.{Mem, Prog, done, Ran, run, Ends, choose, bind, Result, ok, refuse}
use Rattle.guest.proofs.RunLaws.{run_done, choose_yes, choose_no, after}
use Rattle.definition.proofs.EndedLaws.{used_slot}
use Rattle.definition.specs.Table.{is_free, slot_of, lookup, well_formed}
use Rattle.definition.specs.Commands.{Told, formed, lent, found, on_slot}
use Rattle.definition.specs.Calls.{told, counted, Meets}
use Rattle.definition.specs.Refusals.{code_of}
use Rattle.std.specs.Prelude.{Ok, Err}
use Rattle.scan.specs.Types.{Free, Slot, Table, Option, Some, None, Answer, Outcome, Refusal}
use Rattle.scan.specs.Heads.{judged, code_for, Begun, number, begun, checked, record_at, head_of, head_for, refusal}
use Rattle.scan.specs.declared.Head.{Head}

abbrev pub telling : Table → Prog (Result Told) → Prog Told
telling t p = bind p (λ r. done (told t r))

-- ---- how a call ends

meets_told : (t : Table) {p : Prog (Result Told)} {m m' : Mem} {r : Result Told} {s : ℕ} → Ends p m 0 r m' s
    → Meets (telling t p) m (record { table = (told t r).1; answer = counted (told t r).0 s }) m'
meets_told t {p} {m} {m'} {r} {s} e =
    let q = after (λ r. done (told t r)) e ∙ run_done (told t r) m' s in
    record {
      answer = sym (ap (λ (x : Ran Told). counted x.value.0 x.stored) q);
      table = sym (ap (λ (x : Ran Told). x.value.1) q);
      memory = sym (ap (λ (x : Ran Told). x.memory) q);
    }

-- its program ends in a value: the answer has the run's count
pub meets_ok : (t : Table) {p : Prog (Result Told)} {m m' : Mem} {a : Answer} {u : Table} {s : ℕ} → Ends p m 0 (ok (a, u)) m' s
    → Meets (telling t p) m (record { table = u; answer = counted a s }) m'
meets_ok t e = meets_told t e

-- its program ends in a refusal, and has stored nothing
pub refuses_with : (t : Table) {p : Prog (Result Told)} {m : Mem} {c : ℕ} → Ends p m 0 (refuse c) m 0 → Meets (telling t p) m (refusal t c) m
refuses_with t e = meets_told t e

-- its program is a refusal
pub refuses_at_once : (t : Table) {p : Prog (Result Told)} {c : ℕ} (m : Mem) → p ≡ done (refuse c) → Meets (telling t p) m (refusal t c) m
refuses_at_once t {p} {c} m e = refuses_with t (record { ends = ap (λ (q : Prog (Result Told)). run q m 0) e ∙ run_done (refuse c) m 0 })

-- its program is another's, as past the checks
pub meets_as : (t : Table) {p q : Prog (Result Told)} {m m' : Mem} {r : Outcome} → p ≡ q → Meets (telling t q) m r m' → Meets (telling t p) m r m'
meets_as t e h = rw e h

-- ---- a call that lends no memory: b is what `well_formed` gives

module _ (t : Table) {b : Bool} (e : b ≡ well_formed t) (p : Prog (Result Told)) where
  pub refuses_malformed : (m : Mem) → b ≡ false → Meets (telling t (formed t p)) m (refusal t 198) m
  unfolding formed
  refuses_malformed m f = refuses_at_once t m (choose_no (well_formed t) p (done (refuse 198)) (sym e ∙ f))

  pub passes_formed : b ≡ true → formed t p ≡ p
  unfolding formed
  passes_formed f = choose_yes (well_formed t) p (done (refuse 198)) (sym e ∙ f)

-- ---- a call that lends len bytes: r is how it begins

-- what a call has past 198 and 194
pub record Lent (t : Table) (len : ℕ) : Type 0 where
  pub formed : well_formed t ≡ true
  pub size : t.length ≡ len

number_begun : {A : Type 0} (b d : Bool) (a : A) → number (begun b d a) ≡ judged b d
number_begun true true a = refl
number_begun true false a = refl
number_begun false d a = refl

begun_lent : {A : Type 0} (t : Table) (len : ℕ) (b : Bool) → well_formed t ≡ b → (d : Bool) → eqb t.length len ≡ d → (a : A) {x : A} → begun b d a ≡ Ok x → Lent t len
begun_lent t len true e true d a z = record { formed = e; size = eqb-true _ _ d }
begun_lent t len true e false d a z = cc
begun_lent t len false e q d a z = cc

begun_refuses : {A : Type 0} (b d : Bool) (a : A) {x : Refusal} → begun b d a ≡ Err x → (p : Prog (Result Told))
    → choose b (choose d p (done (refuse 194))) (done (refuse 198)) ≡ done (refuse (code_of x))
unfolding choose
begun_refuses true true a z p = cc
begun_refuses true false a z p = ap (λ (c : ℕ). done (refuse c)) (ap number z)
begun_refuses false d a z p = ap (λ (c : ℕ). done (refuse c)) (ap number z)

module _ (t : Table) (len : ℕ) {A : Type 0} (a : A) {r : Begun A} (e : r ≡ begun (well_formed t) (eqb t.length len) a) where
  code_begun : number r ≡ code_for t len
  unfolding code_for
  code_begun = ap number e ∙ number_begun (well_formed t) (eqb t.length len) a

  lent_begun : {x : A} → r ≡ Ok x → Lent t len
  lent_begun z = begun_lent t len (well_formed t) refl (eqb t.length len) refl a (sym e ∙ z)

  refuses_begun : {x : Refusal} → r ≡ Err x → (p : Prog (Result Told)) (m : Mem) → Meets (telling t (formed t (lent t len p))) m (refusal t (code_of x)) m
  unfolding formed lent
  refuses_begun z p m = refuses_at_once t m (begun_refuses (well_formed t) (eqb t.length len) a (sym e ∙ z) p)

past_lent : (t : Table) (len : ℕ) → Lent t len → (p : Prog (Result Told)) → formed t (lent t len p) ≡ p
unfolding formed lent
past_lent t len l p = choose_yes (well_formed t) _ _ l.formed ∙ choose_yes (eqb t.length len) _ _ (eq-eqb _ _ l.size)

-- ---- .. and is for no slot: r is what `checks` gives

module _ (t : Table) (len : ℕ) {r : Begun (Unit {0})} (e : r ≡ checked t len) where
  -- the refusal's code is the definition's; there is one where that is not 0
  pub code_checked : number r ≡ code_for t len
  unfolding checked
  code_checked = code_begun t len _ e

  pub is_lent : {x : Unit {0}} → r ≡ Ok x → Lent t len
  unfolding checked
  is_lent z = lent_begun t len _ e z

  pub refuses_lent : (p : Prog (Result Told)) (m : Mem) {x : Refusal} → r ≡ Err x → Meets (telling t (formed t (lent t len p))) m (refusal t (code_of x)) m
  unfolding checked
  refuses_lent p m z = refuses_begun t len _ e z p m

  pub passes_lent : (p : Prog (Result Told)) {x : Unit {0}} → r ≡ Ok x → formed t (lent t len p) ≡ p
  passes_lent p z = past_lent t len (is_lent z) p

-- ---- a call that is for slot id: r is what `opens` gives, and h its head

-- what the call has past 198, 194 and 11: s is its slot
pub record OnSlot (t : Table) (len id : ℕ) (s : Slot) : Type 0 where
  pub formed : well_formed t ≡ true
  pub size : t.length ≡ len
  pub low : 1 ≤ id
  pub high : id ≤ 16
  pub slot : slot_of t id ≡ s
  pub used : s.state ≡ Free → ⊥

not_free : (s : Slot) → is_free s ≡ false → s.state ≡ Free → ⊥
not_free s f e = let z : ◌≡◌ {A = Bool} true false = rw e at f in let y : ◌≡◌ {A = ℕ} 0 1 = cc in omega arith

pub on_slot_lem : (t : Table) (len id : ℕ) {s : Slot} → Lent t len → lookup t id ≡ Some s → OnSlot t len id s
on_slot_lem t len id {s} l e =
    let q = used_slot t id s e in
    record { formed = l.formed; size = l.size; low = q.1.0; high = q.1.1; slot = q.0; used = not_free s q.2 }

begun_is : {A : Type 0} (b d : Bool) (a : A) {x : A} → begun b d a ≡ Ok x → x ≡ a
begun_is true true a z = cc
begun_is true false a z = cc
begun_is false d a z = cc

found_of : (t : Table) (id i : ℕ) (l : Option Slot) → (head_of t id i l).found ≡ l
found_of t id i None = refl
found_of t id i (Some s) = refl

module _ (t : Table) (len id i : ℕ) {r : Begun Head} (e : r ≡ head_for t len id i) where
  pub code_opened : number r ≡ code_for t len
  unfolding head_for
  code_opened = code_begun t len _ e

  pub head_lent : {h : Head} → r ≡ Ok h → Lent t len
  unfolding head_for
  head_lent z = lent_begun t len _ e z

  -- it is made from what the look found
  head_is : {h : Head} → r ≡ Ok h → h ≡ head_of t id i (lookup t id)
  unfolding head_for
  head_is z = begun_is (well_formed t) (eqb t.length len) _ (sym e ∙ z)

  pub head_found : {h : Head} → r ≡ Ok h → lookup t id ≡ h.found
  head_found z = sym (ap (λ (x : Head). x.found) (head_is z) ∙ found_of t id i (lookup t id))

  -- the endpoint's record, with the slot
  pub head_record : {h : Head} → r ≡ Ok h → {s : Slot} → h.found ≡ Some s → h.endpoint ≡ record_at t id i
  head_record z w = ap (λ (x : Head). x.endpoint) (head_is z) ∙ ap (λ (l : Option Slot). (head_of t id i l).endpoint) (head_found z ∙ w)

  -- past 198 and 194 the look for the slot decides
  head_passes : (absent : ℕ) (f : Slot → Prog (Result Told)) {h : Head} → r ≡ Ok h → {l : Option Slot} → h.found ≡ l
      → on_slot absent t len id f ≡ found l (done (refuse absent)) f
  unfolding on_slot
  head_passes absent f z w =
      past_lent t len (head_lent z) (found (lookup t id) (done (refuse absent)) f) ∙ ap (λ (l : Option Slot). found l (done (refuse absent)) f) (head_found z ∙ w)

  -- 198 or 194
  pub refuses_head : (absent : ℕ) (f : Slot → Prog (Result Told)) (m : Mem) {x : Refusal} → r ≡ Err x → Meets (telling t (on_slot absent t len id f)) m (refusal t (code_of x)) m
  unfolding on_slot head_for
  refuses_head absent f m z = refuses_begun t len _ e z (found (lookup t id) (done (refuse absent)) f) m

  -- the code for a slot that is not there
  pub refuses_absent : (absent : ℕ) (f : Slot → Prog (Result Told)) (m : Mem) {h : Head} → r ≡ Ok h → h.found ≡ None
      → Meets (telling t (on_slot absent t len id f)) m (refusal t absent) m
  refuses_absent absent f m z w = refuses_at_once t m (head_passes absent f z w)

  -- the command's own part is left, with its slot
  pub opened : (absent : ℕ) (f : Slot → Prog (Result Told)) {h : Head} {s : Slot} → r ≡ Ok h → h.found ≡ Some s → on_slot absent t len id f ≡ f s
  opened absent f z w = head_passes absent f z w

  pub opened_slot : {h : Head} {s : Slot} → r ≡ Ok h → h.found ≡ Some s → OnSlot t len id s
  opened_slot z w = on_slot_lem t len id (head_lent z) (head_found z ∙ w)
