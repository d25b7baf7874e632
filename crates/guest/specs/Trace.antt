-- A sequence of calls and guest stores, over any kind of call. `prog c n t` is what the call c does over a memory of n bytes with the table t;
-- `counted` puts a count of bytes stored into an answer; `named c t m a` says that the reading rules name address a for the call c.
-- Assumes nothing.
use Rattle.std.specs.Prelude.{◌≡◌, ℕ, ◌⊎◌, List, [], ◌∷◌, ◌++◌, length, slice_index}
use Rattle.guest.specs.Prog.{Mem, Prog, Store, run, splice, stores, Touched}

-- a call, or a guest store of one byte
pub data Event (C : Type 0) : Type 0 where
  call : C → Event C
  store : ℕ → ℕ → Event C

-- what a call leaves: its answer, the table, the memory
pub record Left (A T : Type 0) : Type 0 where
  pub answer : A
  pub table : T
  pub memory : Mem

-- what a sequence leaves: the answers of its calls in order, the table, the memory
pub record Course (A T : Type 0) : Type 0 where
  pub answers : List A
  pub table : T
  pub memory : Mem

-- sequences by what each call leaves, whether a program of this language says so or code
module _ {C T A : Type 0} (act : C → T → Mem → Left A T) where
  unfoldable pub step : Event C → T → Mem → Course A T
  step (call c) t m = let r = act c t m in record { answers = r.answer ∷ []; table = r.table; memory = r.memory }
  step (store a v) t m = record { answers = []; table = t; memory = splice m a (v ∷ []) }

  unfoldable pub course : List (Event C) → T → Mem → Course A T
  course [] t m = record { answers = []; table = t; memory = m }
  course (e ∷ es) t m =
      let one = step e t m in
      let rest = course es one.table one.memory in
      record { answers = one.answers ++ rest.answers; table = rest.table; memory = rest.memory }

module _ {C T A : Type 0} (prog : C → ℕ → T → Prog (A × T)) (counted : A → ℕ → A) where
  -- what a call's program leaves
  unfoldable pub left : C → T → Mem → Left A T
  left c t m =
      let r = run (prog c (length m) t) m 0 in
      record { answer = counted r.value.0 r.stored; table = r.value.1; memory = r.memory }

  unfoldable pub event_stores : Event C → T → Mem → List Store
  event_stores (call c) t m = stores (prog c (length m) t) m
  event_stores (store a v) t m = record { at = a; bytes = v ∷ [] } ∷ []

  -- the stores of a sequence, in order
  unfoldable pub course_stores : List (Event C) → T → Mem → List Store
  course_stores [] t m = []
  course_stores (e ∷ es) t m = event_stores e t m ++ course_stores es (step left e t m).table (step left e t m).memory

  -- a call or a guest store of the sequence stores to address a
  abbrev pub Wrote : List (Event C) → T → Mem → ℕ → Type 0
  Wrote es t m a = Touched (course_stores es t m) a

  module _ (named : C → T → Mem → ℕ → Type 0) where
    unfoldable pub event_named : Event C → T → Mem → ℕ → Type 0
    event_named (call c) t m a = named c t m a
    event_named (store b v) t m a = ⊥

    -- the reading rules name address a for one of the calls
    unfoldable pub Named : List (Event C) → T → Mem → ℕ → Type 0
    Named [] t m a = ⊥
    Named (e ∷ es) t m a = event_named e t m a ⊎ Named es (step left e t m).table (step left e t m).memory a

    -- .. before anything of the sequence has stored there
    unfoldable pub NamedFirst : List (Event C) → T → Mem → ℕ → Type 0
    NamedFirst [] t m a = ⊥
    NamedFirst (e ∷ es) t m a =
        event_named e t m a ⊎ ((Touched (event_stores e t m) a → ⊥) × NamedFirst es (step left e t m).table (step left e t m).memory a)

  -- what demand 3 says of two runs of one sequence from one table: equal answers and tables, equal written bytes, every other byte as it began
  pub record SameCourse (es : List (Event C)) (t : T) (m₁ m₂ : Mem) : Type 0 where
    pub answers : (course left es t m₁).answers ≡ (course left es t m₂).answers
    pub table : (course left es t m₁).table ≡ (course left es t m₂).table
    pub stores : course_stores es t m₁ ≡ course_stores es t m₂
    pub written : (a : ℕ) → Wrote es t m₁ a → slice_index (course left es t m₁).memory a ≡ slice_index (course left es t m₂).memory a
    pub other₁ : (a : ℕ) → (Wrote es t m₁ a → ⊥) → slice_index (course left es t m₁).memory a ≡ slice_index m₁ a
    pub other₂ : (a : ℕ) → (Wrote es t m₁ a → ⊥) → slice_index (course left es t m₂).memory a ≡ slice_index m₂ a
    pub length₁ : length (course left es t m₁).memory ≡ length m₁
    pub length₂ : length (course left es t m₂).memory ≡ length m₂
