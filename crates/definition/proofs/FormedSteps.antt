-- What an endpoint step keeps: an enabled endpoint stays enabled, unless it is terminated, and its pointer stays aligned.
-- Assumes nothing.
use mathlib.Core.Path.{◌≡◌, refl}
use mathlib.Core.Bool.{Bool, true, false, not, cond, ◌&&◌}
use Prim.Native.Nat.{ℕ, ◌+◌, ◌-◌, ◌%◌, ◌<◌}
use native.Mathlib.Omega.{arith}
use borrow.Author.Tests.{ltb-true, eqb-true, not-true, not-false}
use lib.Dec.{eqb, ltb}
use lib.ListN.{get_or}
use mathlib.Core.List.{List, []}
use Rattle.std.specs.Prelude.{unwrap_or}
use Rattle.guest.specs.Bytes.{count}
use Rattle.guest.specs.Prog.{Prog, put, Result, ok, refuse, passed, all}
use Rattle.guest.specs.Forms.{Gives}
use Rattle.guest.proofs.ListLaws.{and_left, and_right, all_at}
use Rattle.guest.proofs.FormLaws.{gives_choose}
use Rattle.definition.specs.Types.{EndpointState, Disabled, Waiting, InFlight, Halted, Error, StoppedContinuable, Stopped, Endpoint, Input, Doorbell, Stop, Reset, SetDequeue, Terminate, Ok, Stall, TransactionError, TrbError, Option, Some, None, Look, Row}
use Rattle.definition.specs.Table.{endpoint_number, is_disabled}
use Rattle.definition.specs.Steps.{wrong, steps, column, entry, report_of, taken, unaligned, misaligned, submits, placed, moved, Stepped, put_byte, put_when, step_by, step}

-- ---- the entries

-- the code is none of the table's own, and the state does not become Disabled
abbrev ends : Option EndpointState → Bool
ends None = false
ends (Some s) = eqb (endpoint_number s) 0

abbrev sound : Result Row → Bool
sound (ok r) = ltb r.code 198 && not (ends r.next)
sound (refuse c) = ltb c 198

-- each state has a row
row_low : (s : EndpointState) → endpoint_number s - 1 < 6
row_low Disabled = omega arith
row_low Waiting = omega arith
row_low InFlight = omega arith
row_low Halted = omega arith
row_low Error = omega arith
row_low StoppedContinuable = omega arith
row_low Stopped = omega arith

-- a column of the fixed table whose entries are all sound
sound_column : (k : ℕ) → all (count 6 0) (λ n. sound (get_or (get_or steps n []) k wrong)) ≡ true
    → (s : EndpointState) → sound (get_or (get_or steps (endpoint_number s - 1) []) k wrong) ≡ true
sound_column k e s =
    all_at (λ n. sound (get_or (get_or steps n []) k wrong)) 6 0 e (endpoint_number s - 1) (omega arith) (omega (arith, row_low s))

-- they all are, but for Terminate's
sound_entry : (s : EndpointState) (i : Input) → (column i ≡ 4 → ⊥) → sound (entry s i) ≡ true
unfolding entry all count
sound_entry s (Doorbell l) h = sound_column 0 refl s
sound_entry s Stop h = sound_column 1 refl s
sound_entry s Reset h = sound_column 2 refl s
sound_entry s (SetDequeue d) h = sound_column 3 refl s
sound_entry s Terminate h = absurd (h refl)
sound_entry s (Ok l) h = sound_column 5 refl s
sound_entry s (Stall g) h = sound_column 6 refl s
sound_entry s (TransactionError g) h = sound_column 7 refl s
sound_entry s TrbError h = sound_column 8 refl s

-- ---- the record after the step

-- the next state is enabled
next_enabled : (found : Bool) (next : Option EndpointState) (s : EndpointState) → not (ends next) ≡ true → eqb (endpoint_number s) 0 ≡ false
    → eqb (endpoint_number (cond found InFlight (unwrap_or next s))) 0 ≡ false
next_enabled true next s h d = refl
next_enabled false (Some n) s h d = not-true _ h
next_enabled false None s h d = d

-- an enabled record with an aligned pointer
pub record Live (e : Endpoint) : Type 0 where
  pub enabled : is_disabled e ≡ false
  pub aligned : e.pointer % 16 ≡ 0

-- so a step's record is live again
moved_live : (r : Row) (e : Endpoint) (p : Option Look) → sound (ok r) ≡ true → misaligned r p ≡ false → Live e → Live (moved r e p)
moved_live r e p h a l = by (taken r p) _ (next_enabled (submits r p) r.next e.state (and_right (ltb r.code 198) _ h) l.enabled) a
  where
    -- a pointer that is taken was judged
    by : (q : Option Look) (s : EndpointState) → eqb (endpoint_number s) 0 ≡ false → unaligned q ≡ false → Live (placed s e q)
    by None s n a = record { enabled = n; aligned = l.aligned }
    by (Some k) s n a = record { enabled = n; aligned = eqb-true _ _ (not-false _ a) }

-- ---- the step

-- a store gives nothing
gives_byte : {A : Type 0} (P : A → Type 0) (b : Option ℕ) (a : ℕ) (p : Prog A) → Gives P p → Gives P (put_byte b a p)
unfolding Gives
gives_byte P None a p g = g
gives_byte P (Some b) a p g = g

gives_when : {A : Type 0} (P : A → Type 0) (b : Bool) (a : ℕ) (bs : List ℕ) (p : Prog A) → Gives P p → Gives P (put_when b a bs p)
unfolding Gives
gives_when P b a bs p g = gives_choose P b (put a bs p) p (λ e. g) (λ e. g)

-- its code is never 198, and its record is live
abbrev pub Lively : Result Stepped → Type 0
Lively (ok r) = (r.code ≡ 198 → ⊥) × Live r.endpoint
Lively (refuse c) = c ≡ 198 → ⊥

-- the step of any sound entry
step_by_lem : (r : Row) (e : Endpoint) (p : Option Look) (at : ℕ) → sound (ok r) ≡ true → Live e → Gives Lively (step_by r e p at)
unfolding step_by Gives
step_by_lem r e p at h l =
    let low : r.code < 198 = ltb-true _ _ (and_left (ltb r.code 198) _ h) in
    gives_choose Lively (misaligned r p) _ _ (λ a q. omega arith)
    (λ a. gives_byte Lively r.byte at _ (gives_when Lively r.saves (at + 8) _ _ (λ q. omega arith, moved_live r e p h a l)))

-- every input but Terminate keeps an endpoint live
pub step_lively : (e : Endpoint) (i : Input) (at : ℕ) → (column i ≡ 4 → ⊥) → Live e → Gives Lively (step e i at)
unfolding step passed Gives
step_lively e i at h l = by (entry e.state i) (sound_entry e.state i h)
  where
    by : (x : Result Row) → sound x ≡ true → Gives Lively (passed (λ r. step_by r e (report_of i) at) x)
    by (ok r) s = step_by_lem r e (report_of i) at s l
    by (refuse c) s = λ q. omega (arith, ltb-true c 198 s)
