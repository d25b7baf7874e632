-- What a program's form says of every run of it: what stores nothing, what reads nothing, what refuses without a store.
-- Assumes nothing.
use Rattle.std.proofs.Common.{◌≡◌, ℕ, zero, suc, ◌+◌, ◌<◌, ◌≤◌, Bool, true, false, List, [], ◌∷◌, length, sym, refl, add-zero, arith}
use Rattle.guest.specs.Bytes.{inside, count}
use Rattle.guest.specs.Prog.{Mem, Prog, done, get, put, block, splice, run, Reads, stores, choose, bind, each, Result, ok, refuse, need, passed, and_then, every}
use Rattle.guest.specs.Forms.{Quiet, Blind, Firm, Clean, Gives}
use Rattle.guest.proofs.ReadLaws.{no_store}
use Rattle.guest.proofs.RunLaws.{inside_yes, refuse_ok}
use Rattle.guest.proofs.ListLaws.{All, none, more}

-- ---- no path stores

pub quiet_stores : {A : Type 0} (p : Prog A) (m : Mem) → Quiet p → stores p m ≡ []
unfolding Quiet stores
quiet_stores {A = A} (put _ _ _) m f = elim f [ ]
quiet_stores (done r) m f = refl
quiet_stores (get a n k) m f = quiet_stores (k (block m a n)) m (f (block m a n))

-- memory and count stay as they were
pub quiet_run : {A : Type 0} (p : Prog A) (m : Mem) (s : ℕ) → Quiet p → ((run p m s).memory ≡ m) × ((run p m s).stored ≡ s)
quiet_run p m s f = no_store p m s (quiet_stores p m f)

pub quiet_done : {A : Type 0} (x : A) → Quiet (done x)
unfolding Quiet
quiet_done x = tt

pub quiet_choose : {A : Type 0} (b : Bool) (p q : Prog A) → Quiet p → Quiet q → Quiet (choose b p q)
unfolding choose
quiet_choose true p q f g = f
quiet_choose false p q f g = g

pub quiet_need : {A : Type 0} (len b n : ℕ) (p : Prog (Result A)) → Quiet p → Quiet (need len b n p)
unfolding need Quiet
quiet_need len b n p f = quiet_choose (inside len b n) p (done (refuse 193)) f tt

pub quiet_bind : {A B : Type 0} (p : Prog A) (f : A → Prog B) → Quiet p → ((x : A) → Quiet (f x)) → Quiet (bind p f)
unfolding Quiet bind
quiet_bind {A = A} {B = B} (put _ _ _) f q g = elim q [ ]
quiet_bind (done x) f q g = g x
quiet_bind (get a n k) f q g = λ bs. quiet_bind (k bs) f (q bs) g

passed_quiet : {A B : Type 0} (f : A → Prog (Result B)) (r : Result A) → ((x : A) → Quiet (f x)) → Quiet (passed f r)
unfolding passed Quiet
passed_quiet f (ok x) g = g x
passed_quiet f (refuse c) g = tt

pub quiet_then : {A B : Type 0} (p : Prog (Result A)) (f : A → Prog (Result B)) → Quiet p → ((x : A) → Quiet (f x)) → Quiet (and_then p f)
unfolding and_then
quiet_then p f q g = quiet_bind p (passed f) q (λ r. passed_quiet f r g)

pub quiet_every : {A : Type 0} (is : List ℕ) (f : ℕ → Prog (Result Unit)) (p : Prog (Result A)) → ((i : ℕ) → Quiet (f i)) → Quiet p → Quiet (every is f p)
unfolding every
quiet_every [] f p g q = q
quiet_every (i ∷ is) f p g q = quiet_then (f i) _ (g i) (λ _. quiet_every is f p g q)

-- ---- no path reads

pub blind_reads : {A : Type 0} (p : Prog A) (m : Mem) (a : ℕ) → Blind p → Reads p m a → ⊥
unfolding Blind Reads
blind_reads {A = A} (get _ _ _) m a b r = elim b [ ]
blind_reads (done x) m a b r = r
blind_reads (put c bs p) m a b r = blind_reads p (splice m c bs) a b r.1

pub blind_done : {A : Type 0} (x : A) → Blind (done x)
unfolding Blind
blind_done x = tt

pub blind_choose : {A : Type 0} (b : Bool) (p q : Prog A) → Blind p → Blind q → Blind (choose b p q)
unfolding choose
blind_choose true p q f g = f
blind_choose false p q f g = g

pub blind_bind : {A B : Type 0} (p : Prog A) (f : A → Prog B) → Blind p → ((x : A) → Blind (f x)) → Blind (bind p f)
unfolding Blind bind
blind_bind {A = A} {B = B} (get _ _ _) f b g = elim b [ ]
blind_bind (done x) f b g = g x
blind_bind (put a bs p) f b g = blind_bind p f b g

pub blind_then : {A B : Type 0} (p : Prog (Result A)) (f : A → Prog (Result B)) → Blind p → ((x : A) → Blind (f x)) → Blind (and_then p f)
unfolding and_then bind passed Blind
blind_then {A = A} {B = B} (get _ _ _) f b g = elim b [ ]
blind_then (done (ok x)) f b g = g x
blind_then (done (refuse c)) f b g = tt
blind_then (put a bs p) f b g = blind_then p f b g

pub blind_each : {A : Type 0} (is : List ℕ) (f : ℕ → A → Prog A) (x : A) → ((i : ℕ) (y : A) → Blind (f i y)) → Blind (each is f x)
unfolding each Blind
blind_each [] f x b = tt
blind_each (i ∷ is) f x b = blind_bind (f i x) (each is f) (b i x) (λ y. blind_each is f y b)

-- ---- no refusal behind a store

firm_value : {A : Type 0} (p : Prog (Result A)) (m : Mem) (s c : ℕ) → Firm p → (run p m s).value ≡ refuse c → ⊥
unfolding Firm run
firm_value {A = A} (done (refuse _)) m s c f e = elim f [ ]
firm_value (done (ok x)) m s c f e = refuse_ok c x (sym e)
firm_value (get a n k) m s c f e = firm_value (k (block m a n)) m s c (f (block m a n)) e
firm_value (put a bs p) m s c f e = firm_value p (splice m a bs) (s + length bs) c f e

clean_stores : {A : Type 0} (p : Prog (Result A)) (m : Mem) (s c : ℕ) → Clean p → (run p m s).value ≡ refuse c → stores p m ≡ []
unfolding Clean run stores
clean_stores (done r) m s c f e = refl
clean_stores (get a n k) m s c f e = clean_stores (k (block m a n)) m s c (f (block m a n)) e
clean_stores (put a bs p) m s c f e = absurd (firm_value p (splice m a bs) (s + length bs) c f e)

-- a refusal changes nothing
pub clean_refusal : {A : Type 0} (p : Prog (Result A)) (m : Mem) (s c : ℕ) → Clean p → (run p m s).value ≡ refuse c
    → ((run p m s).memory ≡ m) × ((run p m s).stored ≡ s)
clean_refusal p m s c f e = no_store p m s (clean_stores p m s c f e)

pub firm_clean : {A : Type 0} (p : Prog (Result A)) → Firm p → Clean p
unfolding Firm Clean
firm_clean (done r) f = tt
firm_clean (get a n k) f = λ bs. firm_clean (k bs) (f bs)
firm_clean (put a bs p) f = f

pub quiet_clean : {A : Type 0} (p : Prog (Result A)) → Quiet p → Clean p
unfolding Quiet Clean
quiet_clean {A = A} (put _ _ _) f = elim f [ ]
quiet_clean (done r) f = tt
quiet_clean (get a n k) f = λ bs. quiet_clean (k bs) (f bs)

pub firm_ok : {A : Type 0} (x : A) → Firm (done (ok x))
unfolding Firm
firm_ok x = tt

pub clean_done : {A : Type 0} (r : Result A) → Clean (done r)
unfolding Clean
clean_done r = tt

pub firm_bind : {A B : Type 0} (p : Prog A) (f : A → Prog (Result B)) → ((x : A) → Firm (f x)) → Firm (bind p f)
unfolding Firm bind
firm_bind (done x) f g = g x
firm_bind (get a n k) f g = λ bs. firm_bind (k bs) f g
firm_bind (put a bs p) f g = firm_bind p f g

pub firm_choose : {A : Type 0} (b : Bool) (p q : Prog (Result A)) → Firm p → Firm q → Firm (choose b p q)
unfolding choose
firm_choose true p q f g = f
firm_choose false p q f g = g

pub firm_then : {A B : Type 0} (p : Prog (Result A)) (f : A → Prog (Result B)) → Firm p → ((x : A) → Firm (f x)) → Firm (and_then p f)
unfolding and_then bind passed Firm
firm_then {A = A} {B = B} (done (refuse _)) f h g = elim h [ ]
firm_then (done (ok x)) f h g = g x
firm_then (get a n k) f h g = λ bs. firm_then (k bs) f (h bs) g
firm_then (put a bs p) f h g = firm_then p f h g

pub clean_choose : {A : Type 0} (b : Bool) (p q : Prog (Result A)) → Clean p → Clean q → Clean (choose b p q)
unfolding choose
clean_choose true p q f g = f
clean_choose false p q f g = g

pub clean_need : {A : Type 0} (len b n : ℕ) (p : Prog (Result A)) → Clean p → Clean (need len b n p)
unfolding need Clean
clean_need len b n p f = clean_choose (inside len b n) p (done (refuse 193)) f tt

pub clean_then : {A B : Type 0} (p : Prog (Result A)) (f : A → Prog (Result B)) → Quiet p → ((x : A) → Clean (f x)) → Clean (and_then p f)
unfolding and_then bind passed Quiet Clean
clean_then {A = A} {B = B} (put _ _ _) f q g = elim q [ ]
clean_then (done (ok x)) f q g = g x
clean_then (done (refuse c)) f q g = tt
clean_then (get a n k) f q g = λ bs. clean_then (k bs) f (q bs) g

-- a part that may store, and behind it no refusal
pub clean_firm : {A B : Type 0} (p : Prog (Result A)) (f : A → Prog (Result B)) → Clean p → ((x : A) → Firm (f x)) → Clean (and_then p f)
unfolding and_then bind passed Clean
clean_firm (done (ok x)) f c g = firm_clean (f x) (g x)
clean_firm (done (refuse n)) f c g = tt
clean_firm (get a n k) f c g = λ bs. clean_firm (k bs) f (c bs) g
clean_firm (put a bs p) f c g = firm_then p f c g

pub clean_every : {A : Type 0} (is : List ℕ) (f : ℕ → Prog (Result Unit)) (p : Prog (Result A)) → ((i : ℕ) → Quiet (f i)) → Clean p → Clean (every is f p)
unfolding every
clean_every [] f p g c = c
clean_every (i ∷ is) f p g c = clean_then (f i) _ (g i) (λ _. clean_every is f p g c)

-- ---- every path ends in a value of which P holds

pub gives_done : {A : Type 0} (P : A → Type 0) (x : A) → P x → Gives P (done x)
unfolding Gives
gives_done P x h = h

pub gives_get : {A : Type 0} (P : A → Type 0) (a n : ℕ) (k : List ℕ → Prog A) → ((bs : List ℕ) → Gives P (k bs)) → Gives P (get a n k)
unfolding Gives
gives_get P a n k h = h

pub gives_put : {A : Type 0} (P : A → Type 0) (a : ℕ) (bs : List ℕ) (p : Prog A) → Gives P p → Gives P (put a bs p)
unfolding Gives
gives_put P a bs p h = h

pub gives_value : {A : Type 0} (P : A → Type 0) (p : Prog A) (m : Mem) (s : ℕ) → Gives P p → P (run p m s).value
unfolding Gives run
gives_value P (done x) m s g = g
gives_value P (get a n k) m s g = gives_value P (k (block m a n)) m s (g (block m a n))
gives_value P (put a bs p) m s g = gives_value P p (splice m a bs) (s + length bs) g

-- each way may use that it is taken
pub gives_choose : {A : Type 0} (P : A → Type 0) (b : Bool) (p q : Prog A) → (b ≡ true → Gives P p) → (b ≡ false → Gives P q) → Gives P (choose b p q)
unfolding choose
gives_choose P true p q f g = f refl
gives_choose P false p q f g = g refl

pub gives_need : {A : Type 0} (P : Result A → Type 0) (len a n : ℕ) (p : Prog (Result A)) → P (refuse 193) → (a + n ≤ len → Gives P p) → Gives P (need len a n p)
unfolding need Gives
gives_need P len a n p r f = gives_choose P (inside len a n) p (done (refuse 193)) (λ e. f (inside_yes len a n e)) (λ e. r)

-- what the first part's values have, the second may use
pub gives_bind : {A B : Type 0} (Q : A → Type 0) (P : B → Type 0) (p : Prog A) (f : A → Prog B) → Gives Q p → ((x : A) → Q x → Gives P (f x)) → Gives P (bind p f)
unfolding Gives bind
gives_bind Q P (done x) f q g = g x q
gives_bind Q P (get a n k) f q g = λ bs. gives_bind Q P (k bs) f (q bs) g
gives_bind Q P (put a bs p) f q g = gives_bind Q P p f q g

pub gives_then : {A B : Type 0} (Q : Result A → Type 0) (P : Result B → Type 0) (p : Prog (Result A)) (f : A → Prog (Result B)) → Gives Q p
    → ((x : A) → Q (ok x) → Gives P (f x)) → ((c : ℕ) → Q (refuse c) → P (refuse c)) → Gives P (and_then p f)
unfolding and_then passed Gives
gives_then {A} {B} Q P p f q g h = gives_bind Q P p (passed f) q by
  where
    by : (r : Result A) → Q r → Gives P (passed f r)
    by (ok x) q = g x q
    by (refuse c) q = h c q

-- a walk over a list whose numbers all have R keeps P
pub gives_each : {A : Type 0} (R : ℕ → Type 0) (P : A → Type 0) (is : List ℕ) (f : ℕ → A → Prog A) (x : A) → All R is → P x
    → ((i : ℕ) → R i → (y : A) → P y → Gives P (f i y)) → Gives P (each is f x)
unfolding each Gives
gives_each R P [] f x a h g = h
gives_each R P (i ∷ is) f x (more r a) h g = gives_bind P P (f i x) (each is f) (g i r x h) (λ y q. gives_each R P is f y a q g)

-- a counted walk, whose turn j leads from P j to P (j + 1)
pub gives_counted : {A : Type 0} (P : ℕ → A → Type 0) (n i : ℕ) (f : ℕ → A → Prog A) (x : A) → P i x
    → ((j : ℕ) → i ≤ j → j < i + n → (y : A) → P j y → Gives (P (j + 1)) (f j y)) → Gives (P (i + n)) (each (count n i) f x)
unfolding count each Gives
gives_counted P zero i f x p g = rw (add-zero i) p
gives_counted {A} P (suc n) i f x p g =
    let q : i + suc n ≡ (i + 1) + n = omega arith in
    rw q (gives_bind (P (i + 1)) (P ((i + 1) + n)) (f i x) (each (count n (i + 1)) f) (g i (omega arith) (omega arith) x p)
    (λ y h. gives_counted P n (i + 1) f y h (λ j a b z k. g j (omega arith) (omega arith) z k)))

-- past a check at each of a list, what each check shows holds of them all
pub gives_every : {A : Type 0} (R : ℕ → Type 0) (P : Result A → Type 0) (is : List ℕ) (f : ℕ → Prog (Result Unit)) (p : Prog (Result A))
    → ((i : ℕ) → Gives (λ r. (r ≡ ok tt → R i) × ((c : ℕ) → r ≡ refuse c → P (refuse c))) (f i)) → (All R is → Gives P p) → Gives P (every is f p)
unfolding every
gives_every R P [] f p g h = h none
gives_every R P (i ∷ is) f p g h =
    gives_then _ P (f i) (λ _. every is f p) (g i)
    (λ x q. gives_every R P is f p g (λ a. h (more (q.0 refl) a)))
    (λ c q. q.1 c refl)
