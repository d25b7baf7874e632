-- What a program reads decides what it gives and stores. Laws of every program, proved once.
-- Assumes nothing.
use Rattle.std.proofs.Common.{◌≡◌, ℕ, ◌+◌, ◌≤◌, Bool, true, false, ◌⊎◌, List, [], ◌∷◌, ◌++◌, length, get_or, sym, refl, ap, ◌∙◌, subst, inl, inr, ⊎_elim, arith}
use Rattle.guest.specs.Prog.{Mem, Prog, done, get, put, block, splice, run, Within, Reads, Store, stores, Touched, Writes, choose, bind, Result, ok, refuse, need, passed, and_then}
use Rattle.guest.proofs.SpliceLaws.{splice_length, splice_other, splice_same, block_same}
use Rattle.guest.proofs.RunLaws.{inside_yes, choose_yes, choose_no, need_yes}
use Rattle.guest.specs.Bytes.{inside}

-- ---- a list of stores

-- the memory after the stores
unfoldable pub applied : Mem → List Store → Mem
applied m [] = m
applied m (w ∷ ws) = applied (splice m w.at w.bytes) ws

-- how many bytes they store
unfoldable pub total : List Store → ℕ
total [] = 0
total (w ∷ ws) = length w.bytes + total ws

pub applied_length : (ws : List Store) (m : Mem) → length (applied m ws) ≡ length m
unfolding applied
applied_length [] m = refl
applied_length (w ∷ ws) m = applied_length ws (splice m w.at w.bytes) ∙ splice_length m w.at w.bytes

pub applied_append : (ws vs : List Store) (m : Mem) → applied m (ws ++ vs) ≡ applied (applied m ws) vs
unfolding applied
applied_append [] vs m = refl
applied_append (w ∷ ws) vs m = applied_append ws vs (splice m w.at w.bytes)

pub applied_other : (ws : List Store) (m : Mem) (a : ℕ) → (Touched ws a → ⊥) → get_or (applied m ws) a 0 ≡ get_or m a 0
unfolding applied Touched
applied_other [] m a h = refl
applied_other (w ∷ ws) m a h =
    applied_other ws (splice m w.at w.bytes) a (λ t. h (inr t)) ∙ splice_other m w.at w.bytes a (λ t. h (inl t))

pub applied_same : (ws : List Store) (m₁ m₂ : Mem) (a : ℕ) → length m₁ ≡ length m₂
    → ((Touched ws a → ⊥) → get_or m₁ a 0 ≡ get_or m₂ a 0) → get_or (applied m₁ ws) a 0 ≡ get_or (applied m₂ ws) a 0
unfolding applied Touched
applied_same [] m₁ m₂ a e h = h (λ t. t)
applied_same (w ∷ ws) m₁ m₂ a e h =
    applied_same ws (splice m₁ w.at w.bytes) (splice m₂ w.at w.bytes) a
    (splice_length m₁ w.at w.bytes ∙ e ∙ sym (splice_length m₂ w.at w.bytes))
    (λ n. splice_same m₁ m₂ w.at w.bytes a e (λ o. h (⊎_elim o n)))

-- ---- a run's memory and count are those of its stores

pub run_memory : {A : Type 0} (p : Prog A) (m : Mem) (s : ℕ) → (run p m s).memory ≡ applied m (stores p m)
unfolding run stores applied
run_memory (done x) m s = refl
run_memory (get a n k) m s = run_memory (k (block m a n)) m s
run_memory (put a bs p) m s = run_memory p (splice m a bs) (s + length bs)

pub run_count : {A : Type 0} (p : Prog A) (m : Mem) (s : ℕ) → (run p m s).stored ≡ s + total (stores p m)
unfolding run stores total
run_count (done x) m s = omega arith
run_count (get a n k) m s = run_count (k (block m a n)) m s
run_count (put a bs p) m s = omega (arith, run_count p (splice m a bs) (s + length bs))

-- the length is kept
pub run_length : {A : Type 0} (p : Prog A) (m : Mem) (s : ℕ) → length (run p m s).memory ≡ length m
run_length p m s = ap length (run_memory p m s) ∙ applied_length (stores p m) m

-- a byte that is not stored to is as it began
pub run_other : {A : Type 0} (p : Prog A) (m : Mem) (s a : ℕ) → (Writes p m a → ⊥) → get_or (run p m s).memory a 0 ≡ get_or m a 0
run_other p m s a h = rw (run_memory p m s) (applied_other (stores p m) m a h)

-- no store on the path taken: memory and count are unchanged
pub no_store : {A : Type 0} (p : Prog A) (m : Mem) (s : ℕ) → stores p m ≡ [] → ((run p m s).memory ≡ m) × ((run p m s).stored ≡ s)
unfolding applied total
no_store p m s e = (run_memory p m s ∙ ap (λ (ws : List Store). applied m ws) e, omega (arith, run_count p m s, ap total e))

-- ---- what is read decides

-- two memories of one length that agree at each address that p reads on the first: p gives one value and makes the same stores on both
pub same : {A : Type 0} (p : Prog A) (m₁ m₂ : Mem) (s : ℕ) → length m₁ ≡ length m₂
    → ((a : ℕ) → Reads p m₁ a → get_or m₁ a 0 ≡ get_or m₂ a 0) → ((run p m₁ s).value ≡ (run p m₂ s).value) × (stores p m₁ ≡ stores p m₂)
unfolding run stores Reads
same (done x) m₁ m₂ s e h = (refl, refl)
same (get b n k) m₁ m₂ s e h =
    subst (λ (bs : List ℕ). ((run (k (block m₁ b n)) m₁ s).value ≡ (run (k bs) m₂ s).value) × (stores (k (block m₁ b n)) m₁ ≡ stores (k bs) m₂))
    (block_same m₁ m₂ b n e (λ a w. h a (inl w)))
    (same (k (block m₁ b n)) m₁ m₂ s e (λ a r. h a (inr r)))
same (put b bs p) m₁ m₂ s e h =
    let rest = same p (splice m₁ b bs) (splice m₂ b bs) (s + length bs) (splice_length m₁ b bs ∙ e ∙ sym (splice_length m₂ b bs))
    (λ a r. splice_same m₁ m₂ b bs a e (λ n. h a (n, r))) in
    (rest.0, ap (λ (ws : List Store). record { at = b; bytes = bs } ∷ ws) rest.1)

-- the same, spelled out
pub record SameRun {A : Type 0} (p : Prog A) (m₁ m₂ : Mem) (s : ℕ) : Type 0 where
  pub value : (run p m₁ s).value ≡ (run p m₂ s).value
  pub count : (run p m₁ s).stored ≡ (run p m₂ s).stored
  pub made : stores p m₁ ≡ stores p m₂
  pub written : (a : ℕ) → Writes p m₁ a → get_or (run p m₁ s).memory a 0 ≡ get_or (run p m₂ s).memory a 0
  pub other₁ : (a : ℕ) → (Writes p m₁ a → ⊥) → get_or (run p m₁ s).memory a 0 ≡ get_or m₁ a 0
  pub other₂ : (a : ℕ) → (Writes p m₁ a → ⊥) → get_or (run p m₂ s).memory a 0 ≡ get_or m₂ a 0
  pub length₁ : length (run p m₁ s).memory ≡ length m₁
  pub length₂ : length (run p m₂ s).memory ≡ length m₂

pub same_run : {A : Type 0} (p : Prog A) (m₁ m₂ : Mem) (s : ℕ) → length m₁ ≡ length m₂
    → ((a : ℕ) → Reads p m₁ a → get_or m₁ a 0 ≡ get_or m₂ a 0) → SameRun p m₁ m₂ s
same_run p m₁ m₂ s e h =
    let both = same p m₁ m₂ s e h in
    record {
      value = both.0;
      count = run_count p m₁ s ∙ ap (λ (ws : List Store). s + total ws) both.1 ∙ sym (run_count p m₂ s);
      made = both.1;
      written = λ a w.
          ap (λ (m : Mem). get_or m a 0) (run_memory p m₁ s)
          ∙ applied_same (stores p m₁) m₁ m₂ a e (λ n. absurd (n w))
          ∙ ap (λ (m : Mem). get_or m a 0) (ap (λ (ws : List Store). applied m₂ ws) both.1 ∙ sym (run_memory p m₂ s));
      other₁ = run_other p m₁ s;
      other₂ = λ a n. run_other p m₂ s a (λ w. n (rw both.1 w));
      length₁ = run_length p m₁ s;
      length₂ = run_length p m₂ s;
    }

-- ---- what a program reads, by its parts

pub reads_done : {A : Type 0} (x : A) (m : Mem) (a : ℕ) → Reads (done x) m a → ⊥
unfolding Reads
reads_done x m a r = r

pub reads_get : {A : Type 0} (b n : ℕ) (k : List ℕ → Prog A) (m : Mem) (a : ℕ) → Reads (get b n k) m a → Within b n a ⊎ Reads (k (block m b n)) m a
unfolding Reads
reads_get b n k m a r = r

pub reads_put : {A : Type 0} (b : ℕ) (bs : List ℕ) (p : Prog A) (m : Mem) (a : ℕ) → Reads (put b bs p) m a
    → (Within b (length bs) a → ⊥) × Reads p (splice m b bs) a
unfolding Reads
reads_put b bs p m a r = r

pub reads_choose : {A : Type 0} (b : Bool) (p q : Prog A) (m : Mem) (a : ℕ) → Reads (choose b p q) m a
    → ((b ≡ true) × Reads p m a) ⊎ ((b ≡ false) × Reads q m a)
unfolding choose
reads_choose true p q m a r = inl (refl, r)
reads_choose false p q m a r = inr (refl, r)

-- past a test of a range: the range lies in memory
pub reads_need : {A : Type 0} (len b n : ℕ) (p : Prog (Result A)) (m : Mem) (a : ℕ) → Reads (need len b n p) m a → (b + n ≤ len) × Reads p m a
unfolding need
reads_need len b n p m a r =
    ⊎_elim (λ i. (inside_yes len b n i.0, i.1)) (λ o. absurd (reads_done (refuse 193) m a o.1)) (reads_choose (inside len b n) p _ m a r)

-- one program after another: what the first reads, and what the second reads and the first did not store
pub reads_bind : {A B : Type 0} (p : Prog A) (f : A → Prog B) (m : Mem) (s a : ℕ) → Reads (bind p f) m a
    → Reads p m a ⊎ ((Writes p m a → ⊥) × Reads (f (run p m s).value) (run p m s).memory a)
unfolding run stores bind Reads Touched
reads_bind (done x) f m s a r = inr ((λ t. t), r)
reads_bind (get b n k) f m s a (inl w) = inl (inl w)
reads_bind (get b n k) f m s a (inr r) = ⊎_elim (λ q. inl (inr q)) (λ q. inr q) (reads_bind (k (block m b n)) f m s a r)
reads_bind (put b bs p) f m s a r =
    ⊎_elim (λ q. inl (r.0, q)) (λ q. inr (⊎_elim r.0 q.0, q.1)) (reads_bind p f (splice m b bs) (s + length bs) a r.1)

passed_reads : {A B : Type 0} (f : A → Prog (Result B)) (r : Result A) (m : Mem) (a : ℕ) → Reads (passed f r) m a
    → (x : A) × (r ≡ ok x) × Reads (f x) m a
unfolding passed
passed_reads f (ok x) m a h = (x, refl, h)
passed_reads f (refuse c) m a h = absurd (reads_done (refuse c) m a h)

-- past a part that stores nothing and by which the call may have been refused
pub reads_then : {A B : Type 0} (p : Prog (Result A)) (f : A → Prog (Result B)) (m : Mem) (a : ℕ) → stores p m ≡ [] → Reads (and_then p f) m a
    → Reads p m a ⊎ ((x : A) × ((run p m 0).value ≡ ok x) × Reads (f x) m a)
unfolding and_then
reads_then p f m a quiet r =
    ⊎_elim inl
    (λ q. inr (passed_reads f (run p m 0).value m a (subst (λ (k : Mem). Reads (passed f (run p m 0).value) k a) (no_store p m 0 quiet).0 q.1)))
    (reads_bind p (passed f) m 0 a r)

-- ---- and the other way: what is surely read

pub get_reads : {A : Type 0} (b n : ℕ) (k : List ℕ → Prog A) (m : Mem) (a : ℕ) → Within b n a → Reads (get b n k) m a
unfolding Reads
get_reads b n k m a w = inl w

pub bind_reads : {A B : Type 0} (p : Prog A) (f : A → Prog B) (m : Mem) (a : ℕ) → Reads p m a → Reads (bind p f) m a
unfolding Reads bind
bind_reads {A = A} {B = B} (done _) f m a r = elim r [ ]
bind_reads (get b n k) f m a (inl w) = inl w
bind_reads (get b n k) f m a (inr r) = inr (bind_reads (k (block m b n)) f m a r)
bind_reads (put b bs p) f m a r = (r.0, bind_reads p f (splice m b bs) a r.1)

-- what the first of two programs stores to, both do
bind_writes : {A B : Type 0} (p : Prog A) (f : A → Prog B) (m : Mem) (a : ℕ) → Writes p m a → Writes (bind p f) m a
unfolding stores bind Touched
bind_writes (done x) f m a w = absurd w
bind_writes (get b n k) f m a w = bind_writes (k (block m b n)) f m a w
bind_writes (put b bs p) f m a (inl w) = inl w
bind_writes (put b bs p) f m a (inr w) = inr (bind_writes p f (splice m b bs) a w)

-- where p, run over m, does not store to a, it reads a
abbrev pub Seen : {A : Type 0} → Prog A → Mem → ℕ → Type 0
Seen p m a = (Writes p m a → ⊥) → Reads p m a

pub seen_here : {A : Type 0} (b n : ℕ) (k : List ℕ → Prog A) (m : Mem) (a : ℕ) → Within b n a → Seen (get b n k) m a
seen_here b n k m a w = λ o. get_reads b n k m a w

pub seen_later : {A : Type 0} (b n : ℕ) (k : List ℕ → Prog A) (m : Mem) (a : ℕ) → Seen (k (block m b n)) m a → Seen (get b n k) m a
unfolding Reads stores
seen_later b n k m a h = λ o. inr (h o)

pub seen_put : {A : Type 0} (b : ℕ) (bs : List ℕ) (p : Prog A) (m : Mem) (a : ℕ) → Seen p (splice m b bs) a → Seen (put b bs p) m a
unfolding Reads stores Touched
seen_put b bs p m a h = λ o. ((λ w. o (inl w)), h (λ w. o (inr w)))

pub seen_choose_yes : {A : Type 0} (b : Bool) (p q : Prog A) (m : Mem) (a : ℕ) → b ≡ true → Seen p m a → Seen (choose b p q) m a
seen_choose_yes b p q m a e h = rw (choose_yes b p q e) h

pub seen_choose_no : {A : Type 0} (b : Bool) (p q : Prog A) (m : Mem) (a : ℕ) → b ≡ false → Seen q m a → Seen (choose b p q) m a
seen_choose_no b p q m a e h = rw (choose_no b p q e) h

pub seen_need : {A : Type 0} (len b n : ℕ) (p : Prog (Result A)) (m : Mem) (a : ℕ) → b + n ≤ len → Seen p m a → Seen (need len b n p) m a
seen_need len b n p m a h r = rw (need_yes len b n p h) r

-- in the first of two programs
pub seen_first : {A B : Type 0} (p : Prog A) (f : A → Prog B) (m : Mem) (a : ℕ) → Seen p m a → Seen (bind p f) m a
seen_first p f m a h = λ n. bind_reads p f m a (h (λ w. n (bind_writes p f m a w)))

-- past the first of two programs
pub seen_bind : {A B : Type 0} (p : Prog A) (f : A → Prog B) (m : Mem) (s a : ℕ) → Seen (f (run p m s).value) (run p m s).memory a → Seen (bind p f) m a
unfolding Reads bind run stores Touched
seen_bind (done x) f m s a r = r
seen_bind (get b c k) f m s a r = λ n. inr (seen_bind (k (block m b c)) f m s a r n)
seen_bind (put b bs p) f m s a r = λ n. ((λ w. n (inl w)), seen_bind p f (splice m b bs) (s + length bs) a r (λ w. n (inr w)))

-- past a part that stores nothing and gives x
pub seen_then : {A B : Type 0} (p : Prog (Result A)) (f : A → Prog (Result B)) (m : Mem) (a : ℕ) (x : A) → stores p m ≡ [] → (run p m 0).value ≡ ok x
    → Seen (f x) m a → Seen (and_then p f) m a
unfolding and_then passed
seen_then p f m a x quiet e r = seen_bind p (passed f) m 0 a (rw (e, (no_store p m 0 quiet).0) r)
