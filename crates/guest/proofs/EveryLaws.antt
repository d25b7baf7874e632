-- Laws of checks and walks over a list: which were passed, what was read.
-- Assumes nothing.
use Rattle.std.proofs.Common.{◌≡◌, ℕ, zero, suc, ◌+◌, ◌<◌, ◌≤◌, Bool, true, false, cond, ◌&&◌, ◌⊎◌, List, [], ◌∷◌, length, sym, refl, ◌∙◌, subst, inl, inr, ⊎_elim, true≢false, arith}
use native.Mathlib.Decide.{ℕ_discrete}
use Rattle.guest.specs.Bytes.{count, those}
use Rattle.guest.specs.Prog.{Mem, Prog, ran, run, Ends, Reads, each, Result, ok, refuse, and_then, every, all}
use Rattle.guest.specs.Forms.{Quiet}
use Rattle.guest.proofs.ListLaws.{All, none, more, In, here, there, those_yes, those_no, and_left, and_right}
use Rattle.guest.proofs.RunLaws.{passes, refuses, then_value}
use Rattle.guest.proofs.ReadLaws.{run_length, reads_done, reads_bind, reads_then, bind_reads, Seen, seen_first, seen_bind, seen_then}
use Rattle.guest.proofs.FormLaws.{quiet_stores, quiet_run}

-- ---- up to one of a list

-- i is one of a list, and all before it have R
pub data Up (R : ℕ → Type 0) (i : ℕ) : List ℕ → Type 0 where
  now : {is : List ℕ} → Up R i (i ∷ is)
  past : {j : ℕ} {is : List ℕ} → R j → Up R i is → Up R i (j ∷ is)

-- the same of the numbers from k on that pass a test, said without the list
pub record Reached (R : ℕ → Type 0) (f : ℕ → Bool) (n k i : ℕ) : Type 0 where
  pub low : k ≤ i
  pub high : i < k + n
  pub test : f i ≡ true
  pub before : (j : ℕ) → k ≤ j → j < i → f j ≡ true → R j

reached_here : (R : ℕ → Type 0) (f : ℕ → Bool) (n k : ℕ) → f k ≡ true → Reached R f (suc n) k k
reached_here R f n k e = record { low = omega arith; high = omega arith; test = e; before = λ j a b d. absurd (omega arith) }

reached_later : (R : ℕ → Type 0) (f : ℕ → Bool) (n k i : ℕ) → (f k ≡ true → R k) → Reached R f n (k + 1) i → Reached R f (suc n) k i
reached_later R f n k i r q =
    record { low = omega (arith, q.low); high = omega (arith, q.high); test = q.test; before = λ j a b d. by j a b d (ℕ_discrete k j) }
  where
    by : (j : ℕ) → k ≤ j → j < i → f j ≡ true → Dec (k ≡ j) → R j
    by j a b d (yes e) = subst R e (r (rw e d))
    by j a b d (no e) = q.before j (omega arith) b d

up_cons : {R : ℕ → Type 0} {i k : ℕ} {is : List ℕ} → Up R i (k ∷ is) → (k ≡ i) ⊎ (R k × Up R i is)
up_cons now = inl refl
up_cons (past r u) = inr (r, u)

pub up_reached : (R : ℕ → Type 0) (f : ℕ → Bool) (n k i : ℕ) → Up R i (those f (count n k)) → Reached R f n k i
unfolding count those
up_reached R f zero k i u = elim u [ ]
up_reached R f (suc n) k i u = by (f k) refl (up_reached R f n (k + 1) i) u
  where
    by : (b : Bool) → f k ≡ b → (Up R i (those f (count n (k + 1))) → Reached R f n (k + 1) i) → Up R i (those f (k ∷ count n (k + 1))) → Reached R f (suc n) k i
    by true e rest u =
        ⊎_elim (λ d. subst (Reached R f (suc n) k) d (reached_here R f n k e))
        (λ q. reached_later R f n k i (λ _. q.0) (rest q.1))
        (up_cons (rw (those_yes f k (count n (k + 1)) e) at u))
    by false e rest u =
        reached_later R f n k i (λ d. absurd (true≢false (sym d ∙ e))) (rest (rw (those_no f k (count n (k + 1)) e) at u))

pub reached_up : (R : ℕ → Type 0) (f : ℕ → Bool) (n k i : ℕ) → Reached R f n k i → Up R i (those f (count n k))
unfolding count those
reached_up R f zero k i q = absurd (omega (arith, q.low, q.high))
reached_up R f (suc n) k i q = by (ℕ_discrete k i) (f k) refl (λ l. reached_up R f n (k + 1) i (later l))
  where
    later : (k ≡ i → ⊥) → Reached R f n (k + 1) i
    later l =
        record { low = omega (arith, q.low); high = omega (arith, q.high); test = q.test; before = λ j a b d. q.before j (omega arith) b d }

    by : Dec (k ≡ i) → (b : Bool) → f k ≡ b → ((k ≡ i → ⊥) → Up R i (those f (count n (k + 1)))) → Up R i (those f (k ∷ count n (k + 1)))
    by (yes d) b e rest =
        let h : f k ≡ true = rw d q.test in
        rw (those_yes f k (count n (k + 1)) h) (subst (λ (j : ℕ). Up R i (j ∷ those f (count n (k + 1)))) (sym d) now)
    by (no d) true e rest =
        rw (those_yes f k (count n (k + 1)) e) (past (q.before k (omega arith) (omega (arith, q.low)) e) (rest d))
    by (no d) false e rest = rw (those_no f k (count n (k + 1)) e) (rest d)

-- ---- a check at each of a list

-- the check at i passes over m
abbrev pub Passes : (ℕ → Prog (Result Unit)) → Mem → ℕ → Type 0
Passes f m i = (run (f i) m 0).value ≡ ok tt

module _ (f : ℕ → Prog (Result Unit)) (m : Mem) (quiet : (i : ℕ) → Quiet (f i)) {A : Type 0} (p : Prog (Result A)) where
  ends : (i : ℕ) → Passes f m i → Ends (f i) m 0 (ok tt) m 0
  ends i e =
      let q = quiet_run (f i) m 0 (quiet i) in
      record { ends = λ j. ran (e j) (q.0 j) (q.1 j) }

  -- where all pass, p is left
  pub every_run : (is : List ℕ) → All (Passes f m) is → run (every is f p) m 0 ≡ run p m 0
  unfolding every
  every_run [] a = refl
  every_run (i ∷ is) (more e a) = passes (λ _. every is f p) (ends i e) ∙ every_run is a

  -- what is read: by the check at i, those before it having passed; or by p, all having passed
  pub reads_every : (is : List ℕ) (a : ℕ) → Reads (every is f p) m a → ((i : ℕ) × Up (Passes f m) i is × Reads (f i) m a) ⊎ (All (Passes f m) is × Reads p m a)
  unfolding every
  reads_every [] a r = inr (none, r)
  reads_every (i ∷ is) a r =
      ⊎_elim (λ q. inl (i, now, q))
      (λ q. ⊎_elim (λ w. inl (w.0, past q.1 w.1, w.2)) (λ w. inr (more q.1 w.0, w.1)) (reads_every is a q.2))
      (reads_then (f i) (λ _. every is f p) m a (quiet_stores (f i) m (quiet i)) r)

  -- and the other way
  pub seen_check : (i a : ℕ) {is : List ℕ} → Up (Passes f m) i is → Reads (f i) m a → Seen (every is f p) m a
  unfolding every and_then
  seen_check i a now r = λ n. bind_reads (f i) _ m a r
  seen_check i a (past {j} {is} e u) r = seen_then (f j) (λ _. every is f p) m a tt (quiet_stores (f j) m (quiet j)) e (seen_check i a u r)

  pub seen_every : (is : List ℕ) (a : ℕ) → All (Passes f m) is → Seen p m a → Seen (every is f p) m a
  unfolding every
  seen_every [] a e h = h
  seen_every (i ∷ is) a (more e es) h =
      seen_then (f i) (λ _. every is f p) m a tt (quiet_stores (f i) m (quiet i)) e (seen_every is a es h)

  -- a value comes of p, and all have passed
  pub every_value : (is : List ℕ) {x : A} → (run (every is f p) m 0).value ≡ ok x → All (Passes f m) is × ((run p m 0).value ≡ ok x)
  unfolding every
  every_value [] e = (none, e)
  every_value (i ∷ is) {x} e =
      let one = then_value (f i) (λ _. every is f p) m 0 e in
      let q = quiet_run (f i) m 0 (quiet i) in
      let rest = every_value is (rw (q.0, q.1) at one.2) in
      (more one.1 rest.0, rest.1)

-- each check passes where its test does, and is refused with the code c where it does not
module _ (f : ℕ → Prog (Result Unit)) (t : ℕ → Bool) (c : ℕ) (m : Mem) (s : ℕ) (one : (i : ℕ) → Ends (f i) m s (cond (t i) (ok tt) (refuse c)) m s) {A : Type 0} (p : Prog (Result A)) where
  at_true : (i : ℕ) → t i ≡ true → Ends (f i) m s (ok tt) m s
  at_true i e = rw e at (one i)

  at_false : (i : ℕ) → t i ≡ false → Ends (f i) m s (refuse c) m s
  at_false i e = rw e at (one i)

  -- where all pass, p is left
  pub tests_pass : (is : List ℕ) → all is t ≡ true → run (every is f p) m s ≡ run p m s
  unfolding all every
  tests_pass [] e = refl
  tests_pass (i ∷ is) e = passes (λ _. every is f p) (at_true i (and_left (t i) (all is t) e)) ∙ tests_pass is (and_right (t i) (all is t) e)

  -- where one does not, the whole is refused
  pub tests_refuse : (is : List ℕ) → all is t ≡ false → Ends (every is f p) m s (refuse c) m s
  unfolding all every
  tests_refuse [] e = absurd (true≢false e)
  tests_refuse (i ∷ is) e = by (t i) refl e (tests_refuse is)
    where
      by : (b : Bool) → t i ≡ b → b && all is t ≡ false → (all is t ≡ false → Ends (every is f p) m s (refuse c) m s) → Ends (every (i ∷ is) f p) m s (refuse c) m s
      by true d e rest = record { ends = passes (λ _. every is f p) (at_true i d) ∙ (rest e).ends }
      by false d e rest = refuses (λ _. every is f p) (at_false i d)

-- ---- a walk

-- what a walk reads, one of its turns reads, over a memory as long
pub reads_each : {A : Type 0} (f : ℕ → A → Prog A) (is : List ℕ) (x : A) (m : Mem) (a : ℕ) → Reads (each is f x) m a
    → (i : ℕ) × In i is × (y : A) × (k : Mem) × (length k ≡ length m) × Reads (f i y) k a
unfolding each
reads_each f [] x m a r = absurd (reads_done x m a r)
reads_each f (i ∷ is) x m a r =
    ⊎_elim (λ q. (i, here, x, m, refl, q))
    (λ q.
    let w = reads_each f is (run (f i x) m 0).value (run (f i x) m 0).memory a q.1 in
    (w.0, there w.1, w.2, w.3, w.4 ∙ run_length (f i x) m 0, w.5))
    (reads_bind (f i x) (each is f) m 0 a r)

-- what a turn reads over every memory as long, where it does not store to it, the walk reads, where it does not
pub seen_each : {A : Type 0} (f : ℕ → A → Prog A) (a i : ℕ) (x : A) (m : Mem) {is : List ℕ} → In i is
    → ((y : A) (k : Mem) → length k ≡ length m → Seen (f i y) k a) → Seen (each is f x) m a
unfolding each
seen_each f a i x m (here {is}) h = seen_first (f i x) (each is f) m a (h x m refl)
seen_each f a i x m (there {j} {is} q) h =
    seen_bind (f j x) (each is f) m 0 a
    (seen_each f a i (run (f j x) m 0).value (run (f j x) m 0).memory q (λ y k e. h y k (e ∙ run_length (f j x) m 0)))
