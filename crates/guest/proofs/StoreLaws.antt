-- What a run stores and gives, by the program's parts: one rule for each way to make a program.
-- Assumes nothing.
use Rattle.std.proofs.Common.{◌≡◌, ℕ, ◌+◌, ◌≤◌, Bool, true, false, ◌⊎◌, List, [], ◌∷◌, ◌++◌, length, sym, refl, ◌∙◌, inl, inr, ⊎_elim, append_assoc, append-nil, arith, ext_get_or}
use Rattle.guest.specs.Prog.{Mem, Prog, done, get, put, block, splice, run, Within, Store, stores, Touched, choose, bind, each, Result, ok, refuse, need, passed, and_then, every}
use Rattle.guest.proofs.SpliceLaws.{block_length, block_at, block_same}
use Rattle.guest.proofs.ReadLaws.{applied, applied_append, applied_length, applied_other, total}
use Rattle.guest.proofs.RunLaws.{inside_yes}
use Rattle.guest.proofs.ListLaws.{All, none, more}

-- the value that p gives over m
unfoldable pub given : {A : Type 0} → Prog A → Mem → A
given (done x) m = x
given (get a n k) m = given (k (block m a n)) m
given (put a bs p) m = given p (splice m a bs)

-- which is the run's, whatever was stored before
pub run_given : {A : Type 0} (p : Prog A) (m : Mem) (s : ℕ) → (run p m s).value ≡ given p m
unfolding run given
run_given (done x) m s = refl
run_given (get a n k) m s = run_given (k (block m a n)) m s
run_given (put a bs p) m s = run_given p (splice m a bs) (s + length bs)

-- the stores of p over m, and the value that it gives, have R
pub record Runs {A : Type 0} (p : Prog A) (m : Mem) (R : List Store → A → Type 0) : Type 0 where
  pub holds : R (stores p m) (given p m)

-- so has the run
pub runs_run : {A : Type 0} {p : Prog A} {m : Mem} {R : List Store → A → Type 0} → Runs p m R → (s : ℕ) → R (stores p m) (run p m s).value
runs_run {p = p} {m} h s = rw (run_given p m s) h.holds

-- and all that follows from R
pub runs_map : {A : Type 0} {p : Prog A} {m : Mem} {Q R : List Store → A → Type 0} → ((ws : List Store) (x : A) → Q ws x → R ws x) → Runs p m Q → Runs p m R
runs_map {p = p} {m} f h = record { holds = f (stores p m) (given p m) h.holds }

-- ---- values, reads and stores

abbrev pub store : ℕ → List ℕ → Store
store a bs = record { at = a; bytes = bs }

pub runs_done : {A : Type 0} {x : A} {m : Mem} {R : List Store → A → Type 0} → R [] x → Runs (done x) m R
unfolding stores given
runs_done h = record { holds = h }

pub runs_get : {A : Type 0} {a n : ℕ} {k : List ℕ → Prog A} {m : Mem} {R : List Store → A → Type 0} → Runs (k (block m a n)) m R → Runs (get a n k) m R
unfolding stores given
runs_get h = record { holds = h.holds }

pub runs_put : {A : Type 0} {a : ℕ} {bs : List ℕ} {p : Prog A} {m : Mem} {R : List Store → A → Type 0}
    → Runs p (splice m a bs) (λ ws x. R (store a bs ∷ ws) x) → Runs (put a bs p) m R
unfolding stores given
runs_put h = record { holds = h.holds }

-- ---- tests

-- each way may use that it is taken
pub runs_choose : {A : Type 0} {b : Bool} {p q : Prog A} {m : Mem} {R : List Store → A → Type 0} → (b ≡ true → Runs p m R) → (b ≡ false → Runs q m R)
    → Runs (choose b p q) m R
unfolding choose
runs_choose {b = true} f g = f refl
runs_choose {b = false} f g = g refl

-- past a test of a range, it lies in memory
pub runs_need : {A : Type 0} {len : ℕ} (a n : ℕ) {p : Prog (Result A)} {m : Mem} {R : List Store → Result A → Type 0} → R [] (refuse 193)
    → (a + n ≤ len → Runs p m R) → Runs (need len a n p) m R
unfolding need
runs_need {len = len} a n r f = runs_choose (λ e. f (inside_yes len a n e)) (λ e. runs_done r)

-- ---- one program and then another

-- what the first part's stores and value have, the second may use
pub runs_bind : {A B : Type 0} {p : Prog A} {f : A → Prog B} {m : Mem} {R : List Store → B → Type 0} (Q : List Store → A → Type 0) → Runs p m Q
    → ((ws : List Store) (x : A) → Q ws x → Runs (f x) (applied m ws) (λ vs y. R (ws ++ vs) y)) → Runs (bind p f) m R
unfolding stores given bind applied
runs_bind {p = done x} Q h g = record { holds = (g [] x h.holds).holds }
runs_bind {p = get a n k} {f} {m} {R} Q h g = record { holds = (runs_bind {p = k (block m a n)} {f = f} {R = R} Q (record { holds = h.holds }) g).holds }
runs_bind {p = put a bs p} {f} {m} {R} Q h g =
    record {
      holds = (runs_bind {p = p} {f = f} {R = λ ws y. R (store a bs ∷ ws) y} (λ ws x. Q (store a bs ∷ ws) x)
          (record { holds = h.holds }) (λ ws x q. record { holds = (g (store a bs ∷ ws) x q).holds })).holds;
    }

-- the last part only makes a value of the first's
pub runs_last : {A B : Type 0} {p : Prog A} (f : A → B) {m : Mem} {R : List Store → B → Type 0} → Runs p m (λ ws x. R ws (f x))
    → Runs (bind p (λ x. done (f x))) m R
runs_last f {R = R} h =
    runs_bind (λ ws x. R ws (f x)) h (λ ws x q. runs_done (rw (append-nil ws) q))

-- a part that stores nothing: it gives a value that has Q, or refuses with a code that has S
abbrev pub Quietly : {A : Type 0} → (ℕ → Type 0) → (A → Type 0) → List Store → Result A → Type 0
Quietly S Q ws (ok x) = (ws ≡ []) × Q x
Quietly S Q ws (refuse c) = (ws ≡ []) × S c

-- what follows such a part may use Q
pub runs_then : {A B : Type 0} {p : Prog (Result A)} {f : A → Prog (Result B)} {m : Mem} {R : List Store → Result B → Type 0} (S : ℕ → Type 0) (Q : A → Type 0)
    → Runs p m (Quietly S Q) → ((c : ℕ) → S c → R [] (refuse c)) → ((x : A) → Q x → Runs (f x) m R) → Runs (and_then p f) m R
unfolding and_then passed applied
runs_then {A} {f = f} {m} {R} S Q h r g = runs_bind (Quietly S Q) h by
  where
    by : (ws : List Store) (x : Result A) → Quietly S Q ws x → Runs (passed f x) (applied m ws) (λ vs y. R (ws ++ vs) y)
    by ws (ok x) q = rw q.0 (g x q.1)
    by ws (refuse c) q = rw q.0 (runs_done (r c q.1))

-- past such a check at each of a list, what each check shows holds of them all
pub runs_every : {A : Type 0} {is : List ℕ} {f : ℕ → Prog (Result Unit)} {p : Prog (Result A)} {m : Mem} {R : List Store → Result A → Type 0} (S Q : ℕ → Type 0)
    → ((i : ℕ) → Runs (f i) m (Quietly S (λ _. Q i))) → ((c : ℕ) → S c → R [] (refuse c)) → (All Q is → Runs p m R) → Runs (every is f p) m R
unfolding every
runs_every {is = []} S Q h r g = g none
runs_every {is = i ∷ is} S Q h r g = runs_then S (λ _. Q i) (h i) r (λ _ q. runs_every {is = is} S Q h r (λ a. g (more q a)))

module _ {A : Type 0} (f : ℕ → A → Prog A) (m : Mem) (I : List ℕ → List Store → A → Type 0)
    (turn : (i : ℕ) (is : List ℕ) (ws : List Store) (y : A) → I (i ∷ is) ws y → Runs (f i y) (applied m ws) (λ vs z. I is (ws ++ vs) z)) where
  -- a walk that goes on: I holds of what is left of the list, of the stores so far and of the value so far
  pub each_from : (is : List ℕ) (ws : List Store) (y : A) → I is ws y → Runs (each is f y) (applied m ws) (λ vs z. I [] (ws ++ vs) z)
  unfolding each
  each_from [] ws y h = runs_done (rw (append-nil ws) h)
  each_from (i ∷ is) ws y h =
      runs_bind (λ vs z. I is (ws ++ vs) z) (turn i is ws y h)
      (λ vs z q. rw (← applied_append ws vs m) (runs_map (λ us x k. rw (← append_assoc ws vs us) k) (each_from is (ws ++ vs) z q)))

  -- a walk from its beginning
  pub runs_each : {is : List ℕ} {x : A} → I is [] x → Runs (each is f x) m (I [])
  unfolding applied
  runs_each {is} {x} h = each_from is [] x h

-- ---- lists of stores

-- one list of stores after another: how many bytes, and to which addresses
pub total_append : (ws vs : List Store) → total (ws ++ vs) ≡ total ws + total vs
unfolding total
total_append [] vs = omega arith
total_append (w ∷ ws) vs = omega (arith, total_append ws vs)

pub touched_append : (ws vs : List Store) (a : ℕ) → Touched (ws ++ vs) a → Touched ws a ⊎ Touched vs a
unfolding Touched
touched_append [] vs a t = inr t
touched_append (w ∷ ws) vs a (inl h) = inl (inl h)
touched_append (w ∷ ws) vs a (inr t) = ⊎_elim (λ q. inl (inr q)) inr (touched_append ws vs a t)

-- each address that is stored to has P
pub record Stays (P : ℕ → Type 0) (ws : List Store) : Type 0 where
  pub at : (a : ℕ) → Touched ws a → P a

pub stays_none : {P : ℕ → Type 0} → Stays P []
unfolding Touched
stays_none = record { at = λ a h. absurd h }

pub stays_more : {P : ℕ → Type 0} (at : ℕ) (bs : List ℕ) {ws : List Store} → ((a : ℕ) → Within at (length bs) a → P a) → Stays P ws → Stays P (store at bs ∷ ws)
unfolding Touched
stays_more at bs h l = record { at = λ a. ⊎_elim (h a) (l.at a) }

pub stays_append : {P : ℕ → Type 0} {ws vs : List Store} → Stays P ws → Stays P vs → Stays P (ws ++ vs)
stays_append {ws = ws} {vs} l k = record { at = λ a h. ⊎_elim (l.at a) (k.at a) (touched_append ws vs a h) }

-- a block that no store meets is kept
pub block_kept : (m : Mem) (ws : List Store) (a n : ℕ) → ((x : ℕ) → Within a n x → Touched ws x → ⊥) → block (applied m ws) a n ≡ block m a n
block_kept m ws a n h = block_same (applied m ws) m a n (applied_length ws m) (λ x w. applied_other ws m x (h x w))

-- a block of a block
pub block_block : (m : Mem) (a n i k : ℕ) → a + n ≤ length m → i + k ≤ n → block (block m a n) i k ≡ block m (a + i) k
block_block m a n i k h l =
    let inner : length (block m a n) ≡ n = block_length m a n h in
    let left : length (block (block m a n) i k) ≡ k = block_length (block m a n) i k (omega arith) in
    ext_get_or 0 _ _ (left ∙ sym (block_length m (a + i) k (omega arith)))
    (λ j q.
    let e : a + (i + j) ≡ a + i + j = omega arith in
    block_at (block m a n) i k j (omega arith) ∙ block_at m a n (i + j) (omega arith) ∙ rw e (sym (block_at m (a + i) k j (omega arith))))
