-- What the commands promise, and what their parts do.
-- Assumes nothing.
use Rattle.std.specs.Prelude.{◌≡◌, Bool, true, false, cond, leb, ℕ, ◌+◌, ◌*◌, ◌≤◌, length}
use Rattle.std.specs.Prelude as std
use Rattle.std.specs.Prelude.{Option, Some, None, Ok, Err}
use Rattle.guest.specs.Bytes.{◌⊕◌, set_bits}
use Rattle.guest.specs.Prog.{Mem, Prog, done, run, bind, Ends, Result, ok, and_then}
use Rattle.commands.specs.Types.{Input, Endpoint, SlotState, Addressed, Slot, Table, Answer, Outcome}
use Rattle.definition.specs.declared.Refusal.{Refusal}
use Rattle.definition.specs.Refusals.{code_of}
use Rattle.definition.specs.Table.{slot_number, is_disabled, with_endpoint}
use Rattle.definition.specs.Steps.{step}
use Rattle.definition.specs.Walks.{begin}
use Rattle.definition.specs.Commands.{Told, on_endpoint, stepped, usb_types, settled, deconfigure, drop_and_add, finish, reconfigure}
use Rattle.definition.specs.Calls.{Call, counted, told, prog, Meets}
use Rattle.walks.specs.Promises.{Spaces}
use Rattle.scan.specs.Heads.{record_at, refusal}
use Rattle.commands.specs.declared.configure.Flags.{Flags}
use Rattle.commands.specs.declared.outcome.Tally.{Tally}
use Rattle.endpoint.specs.declared.Taken.{Taken}

-- success, with what was launched, terminated and stored
abbrev pub tallied : Table → Tally → Outcome
tallied t y =
    record {
      table = t;
      answer =
          record {
            code = 1;
            slot = 0;
            launched = y.launched;
            terminated = y.terminated;
            port = y.port;
            stored = y.stored;
            submit = 0;
            cancel = 0;
          };
    }

-- the program p, begun when s bytes were stored, was carried out: r and the memory m' are its end
pub record Carries (p : Prog (Result Told)) (m : Mem) (s : ℕ) (r : Outcome) (m' : Mem) : Type 0 where
  pub ends : Ends p m s (ok (counted r.answer 0, r.table)) m' r.answer.stored

-- the call c was answered
abbrev pub Answers : Call → Table → Mem → Outcome → Mem → Type 0
Answers c t m r m' = Meets (prog c (length m) t) m r m'

-- the part p of a call on the table t was answered
abbrev pub Settles : Prog (Result Told) → Table → Mem → Outcome → Mem → Type 0
Settles p t m r m' = Meets (bind p λ r. done (told t r)) m r m'

-- a slot of the table whose device context begins in a memory of len bytes
pub record Based (id base len : ℕ) : Type 0 where
  pub low : 1 ≤ id
  pub high : id ≤ 16
  pub room : base + 64 ≤ len

-- Addressed or Configured
abbrev pub is_settled : SlotState → Bool
is_settled state = leb 3 (slot_number state)

-- what a call that reaches endpoint i does, its slot being found
abbrev pub reaching : ℕ → ℕ → ℕ → Input → Slot → Table → Prog (Result Told)
reaching absent id i input s t =
    on_endpoint absent t id i λ e.
    and_then (step e input (s.base ⊕ 32 * i)) λ r.
    done (ok (stepped r, with_endpoint t id i r.endpoint))

-- what a step answers
abbrev pub step_answer : Taken → Answer
step_answer r =
    record {
      code = r.code;
      slot = 0;
      launched = 0;
      terminated = 0;
      port = 0;
      stored = r.stored;
      submit = cond r.submit 1 0;
      cancel = cond r.cancel 1 0;
    }

-- the table with the endpoint's record, and an answer
abbrev pub applied_with : Table → ℕ → ℕ → Endpoint → Answer → Outcome
applied_with t id i e a = record { table = with_endpoint t id i e; answer = a }

-- the table with the endpoint's record, and the call's answer
abbrev pub applied_to : Table → ℕ → ℕ → Taken → Outcome
applied_to t id i r = applied_with t id i r.endpoint (step_answer r)

-- .. or its refusal; `absent` is the code where there is no such endpoint
abbrev pub settled_to : ℕ → Table → ℕ → ℕ → Option (std.Result Taken Refusal) → Outcome
settled_to absent t id i None = refusal t absent
settled_to absent t id i (Some (Ok r)) = applied_to t id i r
settled_to absent t id i (Some (Err x)) = refusal t (code_of x)

-- the call was answered, for any code of an absent endpoint, any id and any table whose record of endpoint i is e; an endpoint that takes a step is enabled
pub record Reaches (e : Endpoint) (s : Slot) (i : ℕ) (input : Input) (m : Mem) (r : Option (std.Result Taken Refusal)) (m' : Mem) : Type 0 where
  pub answers : (absent id : ℕ) (t : Table) → record_at t id i ≡ e → Settles (reaching absent id i input s t) t m (settled_to absent t id i r) m'
  pub enabled : (x : std.Result Taken Refusal) → r ≡ Some x → is_disabled e ≡ false

-- ---- Configure Endpoint, its slot being found

abbrev pub configuring : ℕ → ℕ → Slot → Bool → ℕ → Table → Prog (Result Told)
configuring id P s true len t = settled s.state (deconfigure id s Addressed t)
configuring id P s false len t = settled s.state (reconfigure usb_types id P s len t)

-- what is left of it where nothing is refused
abbrev pub walking : ℕ → ℕ → Slot → Flags → Table → Prog (Result Told)
walking id P s f t =
    bind (drop_and_add id P s.base (set_bits 30 2 f.drops) (set_bits 30 2 f.adds) (begin t)) (finish id s f.next)

-- the flags are the command's, for any id and table, and every range of the walk lies in memory
pub record Walkable (P : ℕ) (s : Slot) (dc : Bool) (m : Mem) (f : Flags) : Type 0 where
  pub runs : (id : ℕ) (t : Table) → run (configuring id P s dc (length m) t) m 0 ≡ run (walking id P s f t) m 0
  pub spaces : Spaces P s.base f.adds (length m)
  pub room : s.base + 64 ≤ length m

-- a plan is the command's
abbrev pub Plans : ℕ → Slot → Bool → Mem → std.Result Flags Refusal → Type 0
Plans P s dc m (Err e) = (id : ℕ) (t : Table) → Settles (configuring id P s dc (length m) t) t m (refusal t (code_of e)) m
Plans P s dc m (Ok f) = Walkable P s dc m f
