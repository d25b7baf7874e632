-- What the code of a step, a launch and a termination does is what the definition's programs do.
-- Assumes nothing.
use mathlib.Core.Path.{◌≡◌, refl, sym, ap, ◌∙◌}
use mathlib.Core.Bool.{Bool, true, false}
use mathlib.Core.List.{List, [], ◌∷◌}
use Prim.Native.Nat.{ℕ, ◌+◌, ◌%◌, ◌≤◌}
use native.Mathlib.Omega.{arith}
use borrow.Author.Tests.{eqb-true, not-false}
use lib.Dec.{eqb, lit≤}
use Rattle.std.specs.Prelude as rust
use Rattle.std.specs.Prelude.{Option, Some, None}
use Rattle.guest.specs.Bytes.{number, bytes, pointer_of, cycle_of}
use Rattle.guest.specs.Prog.{Mem, Prog, done, block, splice, run, Ends, choose, bind, Result, ok, refuse, passed}
use Rattle.guest.proofs.WordLaws.{bytes_length}
use Rattle.guest.proofs.RunLaws.{choose_no, after}
use Rattle.definition.specs.declared.EndpointState.{EndpointState}
use Rattle.definition.specs.declared.EndpointState.TheVariants.{Disabled, Waiting, InFlight, Halted, Error, StoppedContinuable, Stopped}
use Rattle.definition.specs.declared.Endpoint.{Endpoint}
use Rattle.definition.specs.declared.Look.{Look}
use Rattle.definition.specs.declared.Input.{Input}
use Rattle.definition.specs.declared.Input.TheVariants.{Terminate}
use Rattle.definition.specs.declared.Row.{Row}
use Rattle.definition.specs.declared.Refusal.{Refusal}
use Rattle.definition.specs.declared.Refusal.TheVariants.{Unaligned}
use Rattle.definition.specs.Refusals.{code_of}
use Rattle.definition.specs.Table.{endpoint_number, is_disabled, disabled}
use Rattle.definition.specs.Steps.{entry, report_of, taken, submits, unaligned, misaligned, next_state, placed, moved, word_of, Stepped, put_byte, put_when, step_by, step, launch_at, terminate_at}
use Rattle.endpoint.specs.declared.Taken.{Taken}
use Rattle.endpoint.specs.Promises.{Done, Refused, Takes, Launches, Terminates}
use Rattle.endpoint.specs.Stores.{Stores}

-- ---- the two stores of a step

bind_byte : {A B : Type 0} (b : Option ℕ) (a : ℕ) (p : Prog A) (f : A → Prog B) → bind (put_byte b a p) f ≡ put_byte b a (bind p f)
unfolding bind
bind_byte None a p f = refl
bind_byte (Some b) a p f = refl

bind_when : {A B : Type 0} (b : Bool) (a : ℕ) (bs : List ℕ) (p : Prog A) (f : A → Prog B) → bind (put_when b a bs p) f ≡ put_when b a bs (bind p f)
unfolding choose bind
bind_when true a bs p f = refl
bind_when false a bs p f = refl

-- a store that is made or not, where s bytes were stored before: s' bytes afterwards, at most n more
pub record Puts (p : Prog (Unit {0})) (n : ℕ) (m : Mem) (s : ℕ) (m' : Mem) (s' : ℕ) : Type 0 where
  pub ends : Ends p m s tt m' s'
  pub few : s' ≤ s + n

-- of the state byte
pub byte_yes : {b : Option ℕ} (a : ℕ) {x : ℕ} {m m' : Mem} {s s' : ℕ} → b ≡ Some x → m' ≡ splice m a (x ∷ []) → s' ≡ s + 1 → Puts (put_byte b a (done tt)) 1 m s m' s'
unfolding run
byte_yes a d e k = record { ends = record { ends = rw (d, e, k) }; few = omega arith }

pub byte_no : {b : Option ℕ} (a : ℕ) {m m' : Mem} {s s' : ℕ} → b ≡ None → m' ≡ m → s' ≡ s → Puts (put_byte b a (done tt)) 1 m s m' s'
unfolding run
byte_no a d e k = record { ends = record { ends = rw (d, e, k) }; few = omega arith }

-- of the dequeue word
pub word_yes : {b : Bool} (a : ℕ) {v w : ℕ} {m m' : Mem} {s : ℕ} → b ≡ true → v ≡ w → m' ≡ splice m a (bytes 8 v) → Puts (put_when b a (bytes 8 w) (done tt)) 8 m s m' (s + 8)
unfolding run choose
word_yes a {v} d q e = record { ends = record { ends = rw (d, e, ← q, bytes_length 8 v) }; few = omega arith }

pub word_no : {b : Bool} (a w : ℕ) {m : Mem} {s : ℕ} → b ≡ false → Puts (put_when b a (bytes 8 w) (done tt)) 8 m s m s
unfolding run choose
word_no a w d = record { ends = record { ends = rw d }; few = omega arith }

-- one after the other
pub both_stores : (r : Row) (e : Endpoint) (at : ℕ) {m m₁ m₂ : Mem} {n k : ℕ} → Puts (put_byte r.byte at (done tt)) 1 m 0 m₁ n
    → Puts (put_when r.saves (at + 8) (bytes 8 (word_of e)) (done tt)) 8 m₁ n m₂ k → Stores r e at m m₂ k
unfolding bind
both_stores r e at {m} p q =
    let save : Prog (Unit {0}) = put_when r.saves (at + 8) (bytes 8 (word_of e)) (done tt) in
    record {
      ends = record {
        ends =
            ap (λ (x : Prog (Unit {0})). run x m 0) (sym (bind_byte r.byte at (done tt) (λ (_ : Unit {0}). save)))
            ∙ after (λ (_ : Unit {0}). save) p.ends
            ∙ q.ends.ends;
      };
      few = omega (arith, p.few, q.few);
    }

-- ---- a step by a row of the table

-- a record keeps an aligned pointer
pub moved_aligned : (r : Row) (e : Endpoint) (p : Option Look) → misaligned r p ≡ false → e.pointer % 16 ≡ 0 → (moved r e p).pointer % 16 ≡ 0
moved_aligned r e p h o = picked (taken r p) (next_state r e.state p) h
  where
    picked : (q : Option Look) (s : EndpointState) → unaligned q ≡ false → (placed s e q).pointer % 16 ≡ 0
    picked None s h = o
    picked (Some l) s h = eqb-true (l.pointer % 16) 0 (not-false (eqb (l.pointer % 16) 0) h)

-- what the step does after its stores
after_stores : {A : Type 0} (r : Row) (e : Endpoint) (at : ℕ) {m m' : Mem} {n : ℕ} (p : Prog A) → Stores r e at m m' n
    → run (put_byte r.byte at (put_when r.saves (at + 8) (bytes 8 (word_of e)) p)) m 0 ≡ run p m' n
unfolding bind
after_stores {A} r e at {m} p w =
    ap (λ (x : Prog A). run x m 0)
    (sym
    (bind_byte r.byte at (put_when r.saves (at + 8) (bytes 8 (word_of e)) (done tt)) (λ (_ : Unit {0}). p)
    ∙ ap (put_byte r.byte at) (bind_when r.saves (at + 8) (bytes 8 (word_of e)) (done tt) (λ (_ : Unit {0}). p))))
    ∙ after (λ (_ : Unit {0}). p) w.ends

-- refused by the alignment
pub refused_place : (r : Row) (e : Endpoint) (p : Option Look) (at : ℕ) (m : Mem) → misaligned r p ≡ true → Refused (step_by r e p at) m Unaligned m
unfolding step_by run choose
refused_place r e p at m b = record { ends = record { ends = rw b }; kept = refl; small = lit≤ tt }

-- a step that is done
pub takes_done : (r : Row) (e : Endpoint) (p : Option Look) (at : ℕ) {next : Endpoint} {k : ℕ} {s : Bool} {m m' : Mem} {n : ℕ} → r.code ≤ 1 → misaligned r p ≡ false
    → next ≡ moved r e p → k ≡ r.code → s ≡ submits r p → Stores r next at m m' n → e.pointer % 16 ≡ 0
    → Done (step_by r e p at) m (record { endpoint = next; code = k; submit = s; cancel = r.cancels; stored = n }) m'
unfolding step_by run
takes_done r e p at {next} {k} {s} {m} {m'} {n} h b d q g w a =
    record {
      ends = record {
        ends =
            rw (d, q, g)
            (ap (λ (x : Prog (Result Stepped)). run x m 0) (choose_no (misaligned r p) _ _ b)
            ∙ after_stores r (moved r e p) at _ (rw d at w));
      };
      code = rw q h;
      few = w.few;
      aligned = ap (λ (x : Endpoint). x.pointer % 16) d ∙ moved_aligned r e p b a;
    }

-- ---- by the entry for its state and input

-- which is a refusal by the state
pub refused_state : (e : Endpoint) (i : Input) (at : ℕ) (m : Mem) (x : Refusal) → refuse (code_of x) ≡ entry e.state i → code_of x ≤ 196 → Refused (step e i at) m x m
unfolding step passed run
refused_state e i at m x d h = record { ends = record { ends = rw (← d) }; kept = refl; small = h }

-- .. or a row
pub by_row : (e : Endpoint) (i : Input) (at : ℕ) (m m' : Mem) (r : rust.Result Taken Refusal) {row : Row} {p : Option Look} → ok row ≡ entry e.state i → p ≡ report_of i
    → Takes (step_by row e p at) m r m' → Takes (step e i at) m r m'
unfolding step passed
by_row e i at m m' r d g t = rw (← d, ← g) t

-- ---- launch and terminate

pub launched : (at : ℕ) {w : ℕ} {y : Bool} {q : ℕ} {m m' : Mem} → m' ≡ splice m at (1 ∷ []) → w ≡ number (block m' (at + 8) 8) → y ≡ cycle_of w → q ≡ pointer_of w
    → Launches at m (record { state = Waiting; cycle = y; pointer = q }) m'
unfolding launch_at run
launched at {w} e d g k =
    record { ends = record { ends = rw (g, k, d, e) }; enabled = refl; aligned = rw k (omega arith) }

pub passed_over : {e : Endpoint} (at : ℕ) {m : Mem} → is_disabled e ≡ true → Terminates e at m (record { endpoint = e; stored = 0 }) m
unfolding terminate_at run choose
passed_over at h = record { ends = record { ends = rw h }; count = rw h; few = lit≤ tt }

pub terminated : {e : Endpoint} (at : ℕ) {m m' : Mem} → is_disabled e ≡ false → m' ≡ splice m at (0 ∷ []) → Terminates e at m (record { endpoint = disabled; stored = 1 }) m'
unfolding terminate_at run choose
terminated at h d = record { ends = record { ends = rw (h, d) }; count = rw h; few = lit≤ tt }

-- a step by Terminate does what a termination does, in all six states
pub terminate_works : (e : Endpoint) (at : ℕ) → is_disabled e ≡ false
    → step e Terminate at ≡ bind (terminate_at e at) (λ f. done (ok (record { endpoint = f; code = 1; submit = false; cancel = false })))
unfolding step passed entry step_by terminate_at choose bind
terminate_works e at h = in_state e.state e.cycle e.pointer h
  where
    in_state : (s : EndpointState) (y : Bool) (q : ℕ) → eqb (endpoint_number s) 0 ≡ false
        → step (record { state = s; cycle = y; pointer = q }) Terminate at
        ≡ bind (terminate_at (record { state = s; cycle = y; pointer = q }) at) (λ f. done (ok (record { endpoint = f; code = 1; submit = false; cancel = false })))
    in_state Disabled y q h = cc
    in_state Waiting y q h = refl
    in_state InFlight y q h = refl
    in_state Halted y q h = refl
    in_state Error y q h = refl
    in_state StoppedContinuable y q h = refl
    in_state Stopped y q h = refl
