-- Laws of loops: what is left to run gives what the whole gives. Begin, go on, end; over any list of numbers, so over a counted loop and a walk of flags.
-- Assumes nothing.
use Rattle.std.proofs.Common.{◌≡◌, ℕ, Bool, true, false, ◌&&◌, List, [], ◌∷◌, length, sym, refl, ap, ◌∙◌}
use mathlib.Core.Bool.{and-true, and_assoc}
use Rattle.guest.specs.Prog.{Mem, Prog, run, Ends, each, Result, ok, refuse, every, all}
use Rattle.guest.proofs.RunLaws.{after, passes, refuses, run_done}

-- ---- f at each of a list

-- a loop on the way: `is` are left, x is the value so far, m the memory, s the count
pub record Loop {A : Type 0} (f : ℕ → A → Prog A) (is₀ : List ℕ) (x₀ : A) (m₀ : Mem) (s₀ : ℕ) (is : List ℕ) (x : A) (m : Mem) (s : ℕ) : Type 0 where
  pub size : length m ≡ length m₀
  pub rest : run (each is f x) m s ≡ run (each is₀ f x₀) m₀ s₀

pub loop_begins : {A : Type 0} (f : ℕ → A → Prog A) (is : List ℕ) (x : A) (m : Mem) (s : ℕ) → Loop f is x m s is x m s
loop_begins f is x m s = record { size = refl; rest = refl }

-- one turn, at the first of those left
pub loop_goes : {A : Type 0} (f : ℕ → A → Prog A) {is₀ : List ℕ} {x₀ : A} {m₀ : Mem} {s₀ : ℕ} {js : List ℕ} {i : ℕ} {is : List ℕ} {x : A} {m : Mem} {s : ℕ} {x' : A} {m' : Mem} {s' : ℕ}
    → Loop f is₀ x₀ m₀ s₀ js x m s → js ≡ i ∷ is → Ends (f i x) m s x' m' s' → length m' ≡ length m → Loop f is₀ x₀ m₀ s₀ is x' m' s'
unfolding each
loop_goes {A} f {js = js} {i = i} {is = is} {x = x} {m = m} {s = s} g e d n =
    record { size = n ∙ g.size; rest = sym (ap (λ (l : List ℕ). run (each l f x) m s) e ∙ after (each is f) d) ∙ g.rest }

-- a turn that visits nothing
pub loop_skips : {A : Type 0} (f : ℕ → A → Prog A) {is₀ : List ℕ} {x₀ : A} {m₀ : Mem} {s₀ : ℕ} {js is : List ℕ} {x : A} {m : Mem} {s : ℕ}
    → Loop f is₀ x₀ m₀ s₀ js x m s → js ≡ is → Loop f is₀ x₀ m₀ s₀ is x m s
loop_skips f {x = x} {m = m} {s = s} g e = record { size = g.size; rest = ap (λ (l : List ℕ). run (each l f x) m s) (sym e) ∙ g.rest }

-- none is left: the whole ends here
pub loop_ends : {A : Type 0} (f : ℕ → A → Prog A) {is₀ : List ℕ} {x₀ : A} {m₀ : Mem} {s₀ : ℕ} {is : List ℕ} {x : A} {m : Mem} {s : ℕ}
    → Loop f is₀ x₀ m₀ s₀ is x m s → is ≡ [] → Ends (each is₀ f x₀) m₀ s₀ x m s
unfolding each
loop_ends f {x = x} {m = m} {s = s} g e =
    record { ends = sym g.rest ∙ ap (λ (l : List ℕ). run (each l f x) m s) e ∙ run_done x m s }

-- ---- a check at each of a list

-- checks on the way: nothing is stored by them
pub record Checking {A : Type 0} (f : ℕ → Prog (Result Unit)) (p : Prog (Result A)) (m : Mem) (s : ℕ) (is₀ is : List ℕ) : Type 0 where
  pub rest : run (every is f p) m s ≡ run (every is₀ f p) m s

pub checking_begins : {A : Type 0} (f : ℕ → Prog (Result Unit)) (p : Prog (Result A)) (m : Mem) (s : ℕ) (is : List ℕ) → Checking f p m s is is
checking_begins f p m s is = record { rest = refl }

pub checking_goes : {A : Type 0} (f : ℕ → Prog (Result Unit)) (p : Prog (Result A)) {m : Mem} {s : ℕ} {is₀ js : List ℕ} {i : ℕ} {is : List ℕ}
    → Checking f p m s is₀ js → js ≡ i ∷ is → Ends (f i) m s (ok tt) m s → Checking f p m s is₀ is
unfolding every
checking_goes f p {m = m} {s = s} {is = is} g e d =
    record { rest = sym (ap (λ (l : List ℕ). run (every l f p) m s) e ∙ passes (λ _. every is f p) d) ∙ g.rest }

pub checking_skips : {A : Type 0} (f : ℕ → Prog (Result Unit)) (p : Prog (Result A)) {m : Mem} {s : ℕ} {is₀ js is : List ℕ}
    → Checking f p m s is₀ js → js ≡ is → Checking f p m s is₀ is
checking_skips f p {m = m} {s = s} g e = record { rest = ap (λ (l : List ℕ). run (every l f p) m s) (sym e) ∙ g.rest }

-- the first refusal decides
pub checking_refuses : {A : Type 0} (f : ℕ → Prog (Result Unit)) (p : Prog (Result A)) {m : Mem} {s : ℕ} {is₀ js : List ℕ} {i : ℕ} {is : List ℕ} {c : ℕ}
    → Checking f p m s is₀ js → js ≡ i ∷ is → Ends (f i) m s (refuse c) m s → Ends (every is₀ f p) m s (refuse c) m s
unfolding every
checking_refuses f p {m = m} {s = s} {is = is} g e d =
    record { ends = sym g.rest ∙ ap (λ (l : List ℕ). run (every l f p) m s) e ∙ (refuses (λ _. every is f p) d).ends }

-- all have passed: p is left
pub checking_ends : {A : Type 0} (f : ℕ → Prog (Result Unit)) (p : Prog (Result A)) {m : Mem} {s : ℕ} {is₀ is : List ℕ}
    → Checking f p m s is₀ is → is ≡ [] → run (every is₀ f p) m s ≡ run p m s
unfolding every
checking_ends f p {m = m} {s = s} g e = sym g.rest ∙ ap (λ (l : List ℕ). run (every l f p) m s) e

-- ---- a test at each of a list, that is not left early: what was found so far, with what is left, is the whole

pub record Testing (f : ℕ → Bool) (is₀ is : List ℕ) (good : Bool) : Type 0 where
  pub rest : (good && all is f) ≡ all is₀ f

pub testing_begins : (f : ℕ → Bool) (is : List ℕ) → Testing f is is true
testing_begins f is = record { rest = refl }

pub testing_goes : (f : ℕ → Bool) {is₀ js : List ℕ} {i : ℕ} {is : List ℕ} {good : Bool} → Testing f is₀ js good → js ≡ i ∷ is → (now : Bool) → now ≡ (good && f i)
    → Testing f is₀ is now
unfolding all
testing_goes f {i = i} {is = is} {good = good} g e now d =
    record { rest = rw d (and_assoc good (f i) (all is f)) ∙ sym (ap (λ (l : List ℕ). good && all l f) e) ∙ g.rest }

-- a turn that tests nothing
pub testing_skips : (f : ℕ → Bool) {is₀ js is : List ℕ} {good : Bool} → Testing f is₀ js good → js ≡ is → Testing f is₀ is good
testing_skips f {good = good} g e = record { rest = ap (λ (l : List ℕ). good && all l f) (sym e) ∙ g.rest }

pub testing_ends : (f : ℕ → Bool) {is₀ is : List ℕ} {good : Bool} → Testing f is₀ is good → is ≡ [] → good ≡ all is₀ f
unfolding all
testing_ends f {good = good} g e = sym (and-true good) ∙ sym (ap (λ (l : List ℕ). good && all l f) e) ∙ g.rest

-- the first that fails decides
pub testing_fails : (f : ℕ → Bool) {is₀ js : List ℕ} {i : ℕ} {is : List ℕ} → Testing f is₀ js true → js ≡ i ∷ is → f i ≡ false → all is₀ f ≡ false
unfolding all
testing_fails f {is = is} g e d = sym g.rest ∙ ap (λ (l : List ℕ). all l f) e ∙ rw d
