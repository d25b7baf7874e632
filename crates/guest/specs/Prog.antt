-- The language of the definition: a call's meaning is a small program over guest memory, which says what it reads, what it stores and what it gives.
-- Assumes nothing.
use Rattle.std.specs.Prelude.{◌≡◌, ℕ, zero, suc, ◌+◌, ◌<◌, ◌≤◌, Bool, true, false, ◌&&◌, ◌⊎◌, List, [], ◌∷◌, length, take, drop}
use Rattle.guest.specs.Bytes.{inside, count}

-- guest memory: its bytes, address 0 first
abbrev pub Mem : Type 0
Mem = List ℕ

-- a value; or the n bytes at an address are read, and what follows depends on them; or bytes are stored at an address, and more follows
pub data Prog (A : Type 0) : Type 0 where
  done : A → Prog A
  get : ℕ → ℕ → (List ℕ → Prog A) → Prog A
  put : ℕ → List ℕ → Prog A → Prog A

-- the n bytes at address a
abbrev pub block : Mem → ℕ → ℕ → List ℕ
block m a n = take n (drop a m)

-- the memory with bytes stored from address a on; what lies past the end is dropped, so the length is kept
unfoldable pub splice : Mem → ℕ → List ℕ → Mem
splice [] a bs = []
splice (x ∷ m) (suc a) bs = x ∷ splice m a bs
splice (x ∷ m) zero [] = x ∷ m
splice (x ∷ m) zero (b ∷ bs) = b ∷ splice m zero bs

-- what a run gives: the program's value, the memory, the count of bytes stored
pub record Ran (A : Type 0) : Type 0 where
  pub value : A
  pub memory : Mem
  pub stored : ℕ

abbrev pub ran : {A : Type 0} → A → Mem → ℕ → Ran A
ran x m s = record { value = x; memory = m; stored = s }

-- a run over the memory m, where s bytes were stored before
unfoldable pub run : {A : Type 0} → Prog A → Mem → ℕ → Ran A
run (done x) m s = ran x m s
run (get a n k) m s = run (k (block m a n)) m s
run (put a bs p) m s = run p (splice m a bs) (s + length bs)

-- p, run over m where s bytes were stored before, gives x, the memory m' and s' bytes stored in all
pub record Ends {A : Type 0} (p : Prog A) (m : Mem) (s : ℕ) (x : A) (m' : Mem) (s' : ℕ) : Type 0 where
  pub ends : run p m s ≡ ran x m' s'

-- ---- what a program reads and stores

-- address a is one of the n from b on
abbrev pub Within : ℕ → ℕ → ℕ → Type 0
Within b n a = (b ≤ a) × (a < b + n)

-- p, run over m, reads address a and has not stored to it before
unfoldable pub Reads : {A : Type 0} → Prog A → Mem → ℕ → Type 0
Reads (done x) m a = ⊥
Reads (get b n k) m a = Within b n a ⊎ Reads (k (block m b n)) m a
Reads (put b bs p) m a = (Within b (length bs) a → ⊥) × Reads p (splice m b bs) a

pub record Store : Type 0 where
  pub at : ℕ
  pub bytes : List ℕ

-- the stores of p, run over m, in order
unfoldable pub stores : {A : Type 0} → Prog A → Mem → List Store
stores (done x) m = []
stores (get a n k) m = stores (k (block m a n)) m
stores (put a bs p) m = record { at = a; bytes = bs } ∷ stores p (splice m a bs)

-- one of the stores is to address a
unfoldable pub Touched : List Store → ℕ → Type 0
Touched [] a = ⊥
Touched (w ∷ ws) a = Within w.at (length w.bytes) a ⊎ Touched ws a

-- p, run over m, stores to address a
abbrev pub Writes : {A : Type 0} → Prog A → Mem → ℕ → Type 0
Writes p m a = Touched (stores p m) a

-- ---- programs from programs. These stay shut, and each has a law for its run, its reads and its stores

-- p where the test passes, else q
unfoldable pub choose : {A : Type 0} → Bool → Prog A → Prog A → Prog A
choose true p q = p
choose false p q = q

-- p, then what its value asks for
unfoldable pub bind : {A B : Type 0} → Prog A → (A → Prog B) → Prog B
bind (done x) f = f x
bind (get a n k) f = get a n (λ bs. bind (k bs) f)
bind (put a bs p) f = put a bs (bind p f)

-- f at each number of a list, in order
unfoldable pub each : {A : Type 0} → List ℕ → (ℕ → A → Prog A) → A → Prog A
each [] f x = done x
each (i ∷ is) f x = bind (f i x) (each is f)

-- a counted loop: n turns of f, at i, i + 1, ..
abbrev pub turns : {A : Type 0} → ℕ → ℕ → (ℕ → A → Prog A) → A → Prog A
turns n i f x = each (count n i) f x

-- a value, or the code of a refusal
pub data Result (A : Type 0) : Type 0 where
  ok : A → Result A
  refuse : ℕ → Result A

-- p where the n bytes at a lie in memory, else 193
unfoldable pub need : {A : Type 0} → ℕ → ℕ → ℕ → Prog (Result A) → Prog (Result A)
need len a n p = choose (inside len a n) p (done (refuse 193))

unfoldable pub passed : {A B : Type 0} → (A → Prog (Result B)) → Result A → Prog (Result B)
passed f (ok x) = f x
passed f (refuse c) = done (refuse c)

-- p, and where it is not refused what its value asks for
unfoldable pub and_then : {A B : Type 0} → Prog (Result A) → (A → Prog (Result B)) → Prog (Result B)
and_then p f = bind p (passed f)

-- a check at each number of a list, in order, up to the first refusal; then p
unfoldable pub every : {A : Type 0} → List ℕ → (ℕ → Prog (Result Unit)) → Prog (Result A) → Prog (Result A)
every [] f p = p
every (i ∷ is) f p = and_then (f i) (λ _. every is f p)

-- a test passes at each number of a list
unfoldable pub all : List ℕ → (ℕ → Bool) → Bool
all [] f = true
all (i ∷ is) f = f i && all is f
