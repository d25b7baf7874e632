-- Demand 3 for any kind of call: one sequence over two memories that agree where the reading rules say.
-- Assumes nothing.
use Rattle.std.proofs.Common.{◌≡◌, ℕ, List, [], ◌∷◌, ◌++◌, length, get_or, sym, refl, ap, ◌∙◌, subst, ap₂, inl, inr}
use mathlib.Core.Path.{fun_ext}
use Rattle.guest.specs.Prog.{Mem, Prog, Store, run, Reads, stores, Touched}
use Rattle.guest.specs.Trace.{Event, call, store, Left, step, course, left, event_stores, course_stores, event_named, Named, NamedFirst, SameCourse}
use Rattle.guest.proofs.ReadLaws.{applied, applied_length, applied_append, applied_other, applied_same, run_memory, SameRun, same_run}

-- two ways of acting that leave the same after each call leave the same after each sequence
pub same_acts : {C T A : Type 0} (f g : C → T → Mem → Left A T) → ((c : C) (t : T) (m : Mem) → f c t m ≡ g c t m) → (es : List (Event C)) (t : T) (m : Mem)
    → course f es t m ≡ course g es t m
same_acts {C} {T} {A} f g e es t m =
    ap (λ (h : C → T → Mem → Left A T). course h es t m) (fun_ext (λ c. fun_ext (λ u. fun_ext (λ k. e c u k))))

module _ {C T A : Type 0} (prog : C → ℕ → T → Prog (A × T)) (counted : A → ℕ → A) where
  abbrev Act : C → T → Mem → Left A T
  Act = left prog counted

  abbrev Stores : Event C → T → Mem → List Store
  Stores = event_stores prog counted

  step_memory : (e : Event C) (t : T) (m : Mem) → (step Act e t m).memory ≡ applied m (Stores e t m)
  unfolding step left event_stores applied
  step_memory (call c) t m = run_memory (prog c (length m) t) m 0
  step_memory (store a v) t m = refl

  course_memory : (es : List (Event C)) (t : T) (m : Mem) → (course Act es t m).memory ≡ applied m (course_stores prog counted es t m)
  unfolding course course_stores applied
  course_memory [] t m = refl
  course_memory (e ∷ es) t m =
      course_memory es (step Act e t m).table (step Act e t m).memory
      ∙ ap (λ (k : Mem). applied k (course_stores prog counted es (step Act e t m).table (step Act e t m).memory)) (step_memory e t m)
      ∙ sym (applied_append (Stores e t m) (course_stores prog counted es (step Act e t m).table (step Act e t m).memory) m)

  module _ (named : C → T → Mem → ℕ → Type 0)
      (covered : (c : C) (t : T) (m : Mem) (a : ℕ) → Reads (prog c (length m) t) m a → named c t m a) where
    step_same : (e : Event C) (t : T) (m₁ m₂ : Mem) → length m₁ ≡ length m₂
        → ((a : ℕ) → event_named prog counted named e t m₁ a → get_or m₁ a 0 ≡ get_or m₂ a 0)
        → ((step Act e t m₁).answers ≡ (step Act e t m₂).answers) × ((step Act e t m₁).table ≡ (step Act e t m₂).table) × (Stores e t m₁ ≡ Stores e t m₂)
    unfolding step left event_stores event_named
    step_same (call c) t m₁ m₂ e h =
        let one : SameRun (prog c (length m₁) t) m₁ m₂ 0 = same_run (prog c (length m₁) t) m₁ m₂ 0 e (λ a r. h a (covered c t m₁ a r)) in
        let value : (run (prog c (length m₁) t) m₁ 0).value ≡ (run (prog c (length m₂) t) m₂ 0).value = rw (← e) one.value in
        let count : (run (prog c (length m₁) t) m₁ 0).stored ≡ (run (prog c (length m₂) t) m₂ 0).stored = rw (← e) one.count in
        let made : stores (prog c (length m₁) t) m₁ ≡ stores (prog c (length m₂) t) m₂ = rw (← e) one.made in
        (λ i. counted (value i).0 (count i) ∷ [], λ i. (value i).1, made)
    step_same (store a v) t m₁ m₂ e h = (refl, refl, refl)

    -- after one event the two memories agree at a, if they did before or the event stored there
    step_agree : (e : Event C) (t : T) (m₁ m₂ : Mem) (a : ℕ) → length m₁ ≡ length m₂ → Stores e t m₁ ≡ Stores e t m₂
        → ((Touched (Stores e t m₁) a → ⊥) → get_or m₁ a 0 ≡ get_or m₂ a 0) → get_or (step Act e t m₁).memory a 0 ≡ get_or (step Act e t m₂).memory a 0
    step_agree e t m₁ m₂ a l q h =
        ap (λ (m : Mem). get_or m a 0) (step_memory e t m₁)
        ∙ applied_same (Stores e t m₁) m₁ m₂ a l h
        ∙ ap (λ (m : Mem). get_or m a 0) (ap (λ (ws : List Store). applied m₂ ws) q ∙ sym (step_memory e t m₂))

    step_length : (e : Event C) (t : T) (m : Mem) → length (step Act e t m).memory ≡ length m
    step_length e t m = ap length (step_memory e t m) ∙ applied_length (Stores e t m) m

    course_same : (es : List (Event C)) (t : T) (m₁ m₂ : Mem) → length m₁ ≡ length m₂
        → ((a : ℕ) → NamedFirst prog counted named es t m₁ a → get_or m₁ a 0 ≡ get_or m₂ a 0)
        → ((course Act es t m₁).answers ≡ (course Act es t m₂).answers) × ((course Act es t m₁).table ≡ (course Act es t m₂).table)
        × (course_stores prog counted es t m₁ ≡ course_stores prog counted es t m₂)
    unfolding course course_stores NamedFirst
    course_same [] t m₁ m₂ l h = (refl, refl, refl)
    course_same (e ∷ es) t m₁ m₂ l h =
        let one = step_same e t m₁ m₂ l (λ a n. h a (inl n)) in
        let rest =
        subst (λ (u : T). ((course Act es (step Act e t m₁).table (step Act e t m₁).memory).answers ≡ (course Act es u (step Act e t m₂).memory).answers)
        × ((course Act es (step Act e t m₁).table (step Act e t m₁).memory).table ≡ (course Act es u (step Act e t m₂).memory).table)
        × (course_stores prog counted es (step Act e t m₁).table (step Act e t m₁).memory ≡ course_stores prog counted es u (step Act e t m₂).memory))
        one.1
        (course_same es (step Act e t m₁).table (step Act e t m₁).memory (step Act e t m₂).memory
        (step_length e t m₁ ∙ l ∙ sym (step_length e t m₂))
        (λ a n. step_agree e t m₁ m₂ a l one.2 (λ o. h a (inr (o, n))))) in
        (ap₂ ◌++◌ one.0 rest.0, rest.1, ap₂ ◌++◌ one.2 rest.2)

    -- the theorem, from agreement at the bytes that are named before the sequence stores to them
    pub same_course_first : (es : List (Event C)) (t : T) (m₁ m₂ : Mem) → length m₁ ≡ length m₂
        → ((a : ℕ) → NamedFirst prog counted named es t m₁ a → get_or m₁ a 0 ≡ get_or m₂ a 0) → SameCourse prog counted es t m₁ m₂
    same_course_first es t m₁ m₂ l h =
        let both = course_same es t m₁ m₂ l h in
        let ws = course_stores prog counted es t m₁ in
        record {
          answers = both.0;
          table = both.1;
          stores = both.2;
          written = λ a w.
              ap (λ (m : Mem). get_or m a 0) (course_memory es t m₁)
              ∙ applied_same ws m₁ m₂ a l (λ n. absurd (n w))
              ∙ ap (λ (m : Mem). get_or m a 0) (ap (λ (vs : List Store). applied m₂ vs) both.2 ∙ sym (course_memory es t m₂));
          other₁ = λ a n. rw (course_memory es t m₁) (applied_other ws m₁ a n);
          other₂ = λ a n. rw (course_memory es t m₂) (applied_other (course_stores prog counted es t m₂) m₂ a (λ w. n (rw both.2 w)));
          length₁ = ap length (course_memory es t m₁) ∙ applied_length ws m₁;
          length₂ = ap length (course_memory es t m₂) ∙ applied_length (course_stores prog counted es t m₂) m₂;
        }

    first_named : (es : List (Event C)) (t : T) (m : Mem) (a : ℕ) → NamedFirst prog counted named es t m a → Named prog counted named es t m a
    unfolding NamedFirst Named
    first_named [] t m a x' = elim x' [ ]
    first_named (e ∷ es) t m a (inl n) = inl n
    first_named (e ∷ es) t m a (inr n) = inr (first_named es (step Act e t m).table (step Act e t m).memory a n.1)

    -- demand 3
    pub same_course : (es : List (Event C)) (t : T) (m₁ m₂ : Mem) → length m₁ ≡ length m₂
        → ((a : ℕ) → Named prog counted named es t m₁ a → get_or m₁ a 0 ≡ get_or m₂ a 0) → SameCourse prog counted es t m₁ m₂
    same_course es t m₁ m₂ l h = same_course_first es t m₁ m₂ l (λ a n. h a (first_named es t m₁ a n))
