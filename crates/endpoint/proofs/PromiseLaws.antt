-- What a caller makes of the promises. They settle the outcome: any two outcomes that satisfy one are equal.
-- Assumes nothing.
use mathlib.Core.Path.{◌≡◌, ap, ap₂}
use Prim.Native.Nat.{ℕ}
use Rattle.std.specs.Prelude as rust
use Rattle.guest.specs.Prog.{Mem, Prog, Ends, Result, ok, refuse}
use Rattle.guest.proofs.RunLaws.{one_end}
use Rattle.definition.specs.declared.Endpoint.{Endpoint}
use Rattle.definition.specs.declared.Refusal.{Refusal}
use Rattle.definition.specs.Refusals.{code_of}
use Rattle.definition.specs.Steps.{Stepped}
use Rattle.definition.proofs.RefusalLaws.{one_code}
use Rattle.endpoint.specs.declared.Taken.{Taken}
use Rattle.endpoint.specs.declared.Terminated.{Terminated}
use Rattle.endpoint.specs.Promises.{value_of, Takes, Launches, Terminates}

-- ---- a caller asks whether a step was taken, and goes on

pub goes_on : {p : Prog (Result Stepped)} {m m' : Mem} {r : Taken} → Takes p m (rust.Ok r) m' → Ends p m 0 (ok (value_of r)) m' r.stored
goes_on t = t.ends

pub is_refused : {p : Prog (Result Stepped)} {m m' : Mem} {x : Refusal} → Takes p m (rust.Err x) m' → Ends p m 0 (refuse (code_of x)) m' 0
is_refused t = t.ends

-- ---- any two outcomes are equal

-- what a step leaves, from the definition's value and count
back : Stepped → ℕ → Taken
back x n = record { endpoint = x.endpoint; code = x.code; submit = x.submit; cancel = x.cancel; stored = n }

pub one_step : (p : Prog (Result Stepped)) (m m₁ m₂ : Mem) (r₁ r₂ : rust.Result Taken Refusal) → Takes p m r₁ m₁ → Takes p m r₂ m₂ → (r₁ ≡ r₂) × (m₁ ≡ m₂)
unfolding back
one_step p m m₁ m₂ (rust.Ok a) (rust.Ok b) t u =
    let same = one_end t.ends u.ends in
    let value : value_of a ≡ value_of b = cc in
    (ap rust.Ok (ap₂ back value same.2), same.1)
one_step p m m₁ m₂ (rust.Err x) (rust.Err y) t u =
    let same = one_end t.ends u.ends in
    let code : code_of x ≡ code_of y = cc in
    (ap rust.Err (one_code x y code), same.1)
one_step p m m₁ m₂ (rust.Ok a) (rust.Err y) t u = let same = one_end t.ends u.ends in (cc, same.1)
one_step p m m₁ m₂ (rust.Err x) (rust.Ok b) t u = let same = one_end t.ends u.ends in (cc, same.1)

pub one_launch : {at : ℕ} {m m₁ m₂ : Mem} {r₁ r₂ : Endpoint} → Launches at m r₁ m₁ → Launches at m r₂ m₂ → (r₁ ≡ r₂) × (m₁ ≡ m₂)
one_launch t u = let same = one_end t.ends u.ends in (same.0, same.1)

pub one_termination : {e : Endpoint} {at : ℕ} {m m₁ m₂ : Mem} {r₁ r₂ : Terminated} → Terminates e at m r₁ m₁ → Terminates e at m r₂ m₂ → (r₁ ≡ r₂) × (m₁ ≡ m₂)
one_termination t u =
    let same = one_end t.ends u.ends in
    (ap₂ (λ (f : Endpoint) (n : ℕ). record { endpoint = f; stored = n }) same.0 same.2, same.1)
