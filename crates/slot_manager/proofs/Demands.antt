-- The definition's laws, of the code: of every outcome and memory that a public call's contract allows.
-- Assumes nothing.
use mathlib.Core.Path.{◌≡◌, refl, sym, ap, subst, ◌∙◌}
use mathlib.Core.Bool.{true}
use mathlib.Core.List.{List, ◌∷◌}
use Prim.Native.Nat.{ℕ, ◌≤◌, ◌<◌}
use native.Mathlib.Omega.{arith}
use lib.ListN.{length, get_or}
use Rattle.guest.specs.Prog.{Mem, Ran, run, stores}
use Rattle.guest.specs.Trace.{Event, Course, step, course, left, Named}
use Rattle.guest.proofs.ReadLaws.{run_length}
use Rattle.definition.specs.declared.Table.{Table}
use Rattle.definition.specs.declared.Answer.{Answer}
use Rattle.definition.specs.declared.Outcome.{Outcome}
use Rattle.definition.specs.Table.{well_formed}
use Rattle.definition.specs.Commands.{Told, answer}
use Rattle.definition.specs.Calls.{Call, enable_slot, prog, counted}
use Rattle.definition.specs.Rules.{named}
use Rattle.definition.proofs.CodeLaws as codes
use Rattle.definition.proofs.EnableLaws.{Smallest, AllUsed, Enabling, gives, full, enables, enable_none, none_enable}
use Rattle.definition.proofs.FormedFacts.{Proper}
use Rattle.definition.proofs.FormedCalls.{keeps, never_malformed}
use Rattle.definition.proofs.DemandLaws as demands
use Rattle.definition.proofs.IsolationLaws.{slot_in, Isolated, isolation}
use Rattle.scan.specs.Heads.{refusal}
use Rattle.commands.specs.Promises.{Answers}
use Rattle.formed.specs.Promises.{Ready}
use Rattle.slot_manager.specs.Promises.{Runs, ended, called, stored, Alike}

-- ---- one call

module _ (c : Call) (t : Table) (m : Mem) {r : Outcome} {m' : Mem} (w : Answers c t m r m') where
  abbrev Whole : Ran Told
  Whole = run (prog c (length m) t) m 0

  code_is : r.answer.code ≡ Whole.value.0.code
  code_is = ap (λ (a : Answer). a.code) w.answer

  -- demand 1: a refusal leaves the table and the memory as they stood, and all but its code is 0
  pub refusal_keeps : 1 < r.answer.code → (r ≡ refusal t r.answer.code) × (m' ≡ m)
  refusal_keeps h =
      let u = codes.refused c t m (omega (arith, code_is)) in
      let a : r.answer ≡ answer r.answer.code = w.answer ∙ (λ i. counted (u.answer i) (u.stored i)) ∙ ap answer (sym code_is) in
      let b : r.table ≡ t = w.table ∙ u.table in
      (λ i. record { table = b i; answer = a i }, w.memory ∙ u.memory)

  -- the contract leaves one outcome and one memory
  pub one_answer : {r₂ : Outcome} {m₂ : Mem} → Answers c t m r₂ m₂ → (r ≡ r₂) × (m' ≡ m₂)
  one_answer v = demands.one_outcome (prog c (length m) t) m _ _ _ _ w v

  -- a well formed table stays so, and 198 is not answered with one
  pub stays_proper : Proper t → Proper r.table
  stays_proper p = subst Proper (sym w.table) (keeps c t m p)

  pub not_malformed : Proper t → r.answer.code ≡ 198 → ⊥
  not_malformed p e = never_malformed c t m p (sym code_is ∙ e)

  -- a table and a memory that fit each other still do: `formed` can be called again
  pub length_kept : r.table.length ≡ t.length
  length_kept = ap (λ (u : Table). u.length) w.table ∙ codes.keeps_length c t m

  pub stays_ready : Proper t → t.length ≡ length m → Ready r.table m'
  stays_ready p e =
      let k : length m' ≡ length m = ap (λ (x : Mem). length x) w.memory ∙ run_length (prog c (length m) t) m 0 in
      record { formed = (stays_proper p).formed; size = length_kept ∙ e ∙ sym k }

  -- a call for one slot touches no other
  pub keeps_apart : 1 ≤ slot_in c → Isolated (slot_in c) t r.table (stores (prog c (length m) t) m)
  keeps_apart h = rw w.table (isolation c t m h)

-- ---- Enable Slot

module _ (t : Table) (m : Mem) {r : Outcome} {m' : Mem} (h : well_formed t ≡ true) (w : Answers enable_slot t m r m') where
  -- 9 exactly when no id from 1 to the limit is free
  pub nine_full : r.answer.code ≡ 9 → AllUsed t
  nine_full e = enable_none t m h (sym (code_is enable_slot t m w) ∙ e)

  pub full_nine : AllUsed t → r.answer.code ≡ 9
  full_nine u = code_is enable_slot t m w ∙ none_enable t m h u

  -- else the smallest free id
  pub else_smallest : (r.answer.code ≡ 9 → ⊥) → Smallest t r.answer.slot
  else_smallest n = rw (ap (λ (a : Answer). a.slot) w.answer) (by (enables t m h) (λ e. n (code_is enable_slot t m w ∙ e)))
    where
      by : {x : Ran Told} → Enabling t m x → (x.value.0.code ≡ 9 → ⊥) → Smallest t x.value.0.slot
      by (gives id s) n = s
      by (full u) n = absurd (n refl)

-- ---- sequences

-- demand 2: what the code leaves is what the definition leaves
pub as_defined : {es : List (Event Call)} {t : Table} {m : Mem} {xs : List Answer} {t' : Table} {m' : Mem} → Runs es t m xs t' m'
    → record { answers = xs; table = t'; memory = m' } ≡ course (left prog counted) es t m
unfolding course step left
as_defined ended = refl
as_defined (called {es = es} w k) =
    let rest = as_defined k ∙ (λ i. course (left prog counted) es (w.table i) (w.memory i)) in
    λ i. record { answers = w.answer i ∷ (rest i).answers; table = (rest i).table; memory = (rest i).memory }
as_defined (stored k) = as_defined k

-- demand 3: memories that agree where the reading rules name a byte
pub agree_alike : (es : List (Event Call)) (t : Table) (m₁ m₂ : Mem) → length m₁ ≡ length m₂
    → ((a : ℕ) → Named prog counted named es t m₁ a → get_or m₁ a 0 ≡ get_or m₂ a 0)
    → {xs₁ : List Answer} {t₁ : Table} {k₁ : Mem} {xs₂ : List Answer} {t₂ : Table} {k₂ : Mem} → Runs es t m₁ xs₁ t₁ k₁ → Runs es t m₂ xs₂ t₂ k₂
    → Alike es t m₁ m₂ xs₁ t₁ k₁ xs₂ t₂ k₂
agree_alike es t m₁ m₂ e h x y =
    let s = demands.demand3 es t m₁ m₂ e h in
    let p = as_defined x in
    let q = as_defined y in
    let p₁ = ap (λ (c : Course Answer Table). c.memory) p in
    let q₁ = ap (λ (c : Course Answer Table). c.memory) q in
    record {
      answers = ap (λ (c : Course Answer Table). c.answers) p ∙ s.answers ∙ sym (ap (λ (c : Course Answer Table). c.answers) q);
      table = ap (λ (c : Course Answer Table). c.table) p ∙ s.table ∙ sym (ap (λ (c : Course Answer Table). c.table) q);
      written = λ a n. ap (λ (k : Mem). get_or k a 0) p₁ ∙ s.written a n ∙ sym (ap (λ (k : Mem). get_or k a 0) q₁);
      other₁ = λ a n. ap (λ (k : Mem). get_or k a 0) p₁ ∙ s.other₁ a n;
      other₂ = λ a n. ap (λ (k : Mem). get_or k a 0) q₁ ∙ s.other₂ a n;
      length₁ = ap (λ (k : Mem). length k) p₁ ∙ s.length₁;
      length₂ = ap (λ (k : Mem). length k) q₁ ∙ s.length₂;
    }

-- any sequence from a table as it is made keeps it well formed
pub runs_proper : {es : List (Event Call)} {t : Table} {m : Mem} {xs : List Answer} {t' : Table} {m' : Mem} → Runs es t m xs t' m' → Proper t → Proper t'
runs_proper ended p = p
runs_proper (called {c = c} {t = t} {m = m} w k) p = runs_proper k (stays_proper c t m w p)
runs_proper (stored k) p = runs_proper k p
