-- What this crate's functions promise. A crate above needs nothing of it but these.
-- Assumes nothing.
use Rattle.std.specs.Prelude.{◌≡◌, false, cond, ℕ, ◌+◌, ◌%◌, ◌≤◌, ◌<◌, length}
use Rattle.std.specs.Prelude as rust
use Rattle.guest.specs.Prog.{Mem, Prog, Ends, Result, ok, refuse}
use Rattle.definition.specs.declared.Endpoint.{Endpoint}
use Rattle.definition.specs.declared.Refusal.{Refusal}
use Rattle.definition.specs.Refusals.{code_of}
use Rattle.definition.specs.Table.{is_disabled}
use Rattle.definition.specs.Steps.{Stepped, launch_at, terminate_at}
use Rattle.endpoint.specs.declared.Taken.{Taken}
use Rattle.endpoint.specs.declared.Terminated.{Terminated}

-- what a step asks of its caller: the context lies in memory, and the record's pointer is aligned
pub record Ready (e : Endpoint) (at : ℕ) (m : Mem) : Type 0 where
  pub inside : at + 32 ≤ length m
  pub aligned : e.pointer % 16 ≡ 0

-- ---- a step

-- what a step leaves, as the definition's value
abbrev pub value_of : Taken → Stepped
value_of r = record { endpoint = r.endpoint; code = r.code; submit = r.submit; cancel = r.cancel }

-- the step p over the memory m was taken: r and the memory m' are its end. The rest follows from that, and is what callers need of it
pub record Done (p : Prog (Result Stepped)) (m : Mem) (r : Taken) (m' : Mem) : Type 0 where
  pub ends : Ends p m 0 (ok (value_of r)) m' r.stored
  pub code : r.code ≤ 1
  pub few : r.stored ≤ 9
  pub aligned : r.endpoint.pointer % 16 ≡ 0

-- .. or it was refused, and nothing is stored. "Everything but the code is 0 in a refusal"
pub record Refused (p : Prog (Result Stepped)) (m : Mem) (x : Refusal) (m' : Mem) : Type 0 where
  pub ends : Ends p m 0 (refuse (code_of x)) m' 0
  pub kept : m' ≡ m
  pub small : code_of x ≤ 196

abbrev pub Takes : Prog (Result Stepped) → Mem → rust.Result Taken Refusal → Mem → Type 0
Takes p m (rust.Ok r) m' = Done p m r m'
Takes p m (rust.Err x) m' = Refused p m x m'

-- ---- launch and terminate

-- the launch of the endpoint whose context is at `at`, over the memory m, ends in the record r and the memory m'
pub record Launches (at : ℕ) (m : Mem) (r : Endpoint) (m' : Mem) : Type 0 where
  pub ends : Ends (launch_at at) m 0 r m' 1
  pub enabled : is_disabled r ≡ false
  pub aligned : r.pointer % 16 ≡ 0

-- the same of the endpoint e, terminated: one byte is stored, or none where it was disabled
pub record Terminates (e : Endpoint) (at : ℕ) (m : Mem) (r : Terminated) (m' : Mem) : Type 0 where
  pub ends : Ends (terminate_at e at) m 0 r.endpoint m' r.stored
  pub count : r.stored ≡ cond (is_disabled e) 0 1
  pub few : r.stored ≤ 1
