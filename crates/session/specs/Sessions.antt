-- A recorded session: its records, what they tell up to the first bad one, and what replaying them leaves.
-- Assumes nothing.
use Rattle.std.specs.Prelude.{◌≡◌, Bool, true, false, cond, List, [], ◌∷◌, ◌++◌, map, ℕ, zero, suc, ◌+◌, ◌*◌, ◌/◌, leb, eqb, length, take, drop, Result, Ok, Err, IfOk, OnErr}
use Rattle.guest.specs.Prog.{Mem, splice}
use Rattle.guest.specs.Trace.{Event, call, store, Course, course, left}
use Rattle.definition.specs.declared.Table.{Table}
use Rattle.definition.specs.declared.Answer.{Answer}
use Rattle.definition.specs.Calls as calls
use Rattle.definition.specs.Calls.{prog, counted}
use Rattle.scan.specs.Heads.{code_for}
use Rattle.trace.specs.declared.Entry.{Entry}
use Rattle.trace.specs.declared.Entry.TheVariants.{Call, Store}
use Rattle.trace.specs.declared.BadRecord.{BadRecord}
use Rattle.trace.specs.Events.{call_of}
use Rattle.trace.specs.Records.{entry_of}
use Rattle.session.specs.declared.Ran.{Ran}
use Rattle.session.specs.declared.Refused.{Refused}
use Rattle.session.specs.Refusals.{number_of}

-- ---- the records

-- n records of 32 bytes, the last perhaps short
unfoldable pub records : ℕ → List ℕ → List (List ℕ)
records zero bs = []
records (suc n) bs = take 32 bs ∷ records n (drop 32 bs)

-- how many records so many bytes are
abbrev pub records_in : ℕ → ℕ
records_in n = (n + 31) / 32

-- what the records of a trace tell, over a memory of len bytes
unfoldable pub entries : ℕ → List ℕ → List (Result Entry BadRecord)
entries len bs = map (entry_of len) (records (records_in (length bs)) bs)

-- the calls and guest stores up to the first bad record
unfoldable pub events_of : List (Result Entry BadRecord) → List (Event calls.Call)
events_of [] = []
events_of (Ok (Call c) ∷ es) = call (call_of c) ∷ events_of es
events_of (Ok (Store b) ∷ es) = store b.address b.value ∷ events_of es
events_of (Err e ∷ es) = []

-- whether there is a bad one
unfoldable pub any_bad : List (Result Entry BadRecord) → Bool
any_bad [] = false
any_bad (Ok (Call c) ∷ es) = any_bad es
any_bad (Ok (Store b) ∷ es) = any_bad es
any_bad (Err e ∷ es) = true

-- ---- the answers

-- "An answer holds: code, slot id, launched mask, terminated mask, root port, bytes stored, submit, cancel"
abbrev pub numbers : Answer → List ℕ
numbers a =
    a.code ∷ a.slot ∷ a.launched ∷ a.terminated ∷ a.port ∷ a.stored ∷ a.submit ∷ a.cancel ∷ []

unfoldable pub all_numbers : List Answer → List ℕ
all_numbers [] = []
all_numbers (a ∷ xs) = numbers a ++ all_numbers xs

-- ---- a run

-- what replaying a trace leaves
unfoldable pub replayed : List ℕ → Table → Mem → Course Answer Table
replayed bs t m = course (left prog counted) (events_of (entries (length m) bs)) t m

-- the trace bs was replayed from table t and memory m, and the answers were written to ns from its start on: r, m' and ns' are left
pub record Plays (t : Table) (m : Mem) (bs ns : List ℕ) (r : Ran) (m' : Mem) (ns' : List ℕ) : Type 0 where
  pub table : r.table ≡ (replayed bs t m).table
  pub memory : m' ≡ (replayed bs t m).memory
  pub numbers : ns' ≡ splice ns 0 (all_numbers (replayed bs t m).answers)
  pub answered : r.answered ≡ length (replayed bs t m).answers
  pub bad : r.bad ≡ any_bad (entries (length m) bs)

-- the answers to so many bytes fit into so many numbers, even if each record is a call
abbrev pub room_for : ℕ → ℕ → Bool
room_for bytes numbers = leb (8 * records_in bytes) numbers

-- 198, then 194, then 200 where the answers may not fit; 0 where nothing is refused
unfoldable pub refused_with : Table → Mem → List ℕ → List ℕ → ℕ
refused_with t m bs ns =
    cond (eqb (code_for t (length m)) 0) (cond (room_for (length bs) (length ns)) 0 200) (code_for t (length m))

-- with what a run ends: 0, or why nothing was run
abbrev pub code_of : Result Ran Refused → ℕ
code_of (Ok r) = 0
code_of (Err e) = number_of e

-- what a run promises: where nothing was run, nothing is changed
pub record Runs (t : Table) (m : Mem) (bs ns : List ℕ) (r : Result Ran Refused) (m' : Mem) (ns' : List ℕ) : Type 0 where
  pub code : code_of r ≡ refused_with t m bs ns
  pub kept : OnErr r ((m' ≡ m) × (ns' ≡ ns))
  pub played : IfOk r (λ x. Plays t m bs ns x m' ns')
