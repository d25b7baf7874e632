-- Every call as one type, what each means, and what a function that carries one out promises.
-- Assumes nothing.
use Rattle.std.specs.Prelude.{◌≡◌, Bool, cond, ℕ, leb}
use Rattle.guest.specs.Prog.{Mem, Prog, done, bind, run, Result, ok, refuse}
use Rattle.definition.specs.Types.{Dequeue, Look, Option, Doorbell, Stop, Reset, SetDequeue, Ok, Stall, TransactionError, TrbError, Table, Answer, Outcome}
use Rattle.definition.specs.Table.{fresh_table}
use Rattle.definition.specs.Commands as commands
use Rattle.definition.specs.Commands.{Told, answer, usb_types, endpoint_call}

-- the calls, with a slot id, an endpoint id, the input context pointer P, and BSR or DC, where they have them
pub data Call : Type 0 where
  set_limit : ℕ → Call
  set_dcbaap : ℕ → Call
  enable_slot : Call
  disable_slot : ℕ → Call
  address_device : ℕ → ℕ → Bool → Call
  configure_endpoint : ℕ → ℕ → Bool → Call
  evaluate_context : ℕ → ℕ → Call
  reset_device : ℕ → Call
  reset_all : Call
  stop_endpoint : ℕ → ℕ → Call
  reset_endpoint : ℕ → ℕ → Call
  set_dequeue : ℕ → ℕ → Dequeue → Call
  doorbell : ℕ → ℕ → Look → Call
  host_ok : ℕ → ℕ → Look → Call
  host_stall : ℕ → ℕ → Option Dequeue → Call
  host_transaction_error : ℕ → ℕ → Option Dequeue → Call
  host_trb_error : ℕ → ℕ → Call

-- what a call does with a table over a memory of len bytes, or the code of its refusal
unfoldable pub meaning : Call → ℕ → Table → Prog (Result Told)
meaning (set_limit n) len t = commands.set_limit n t
meaning (set_dcbaap a) len t = commands.set_dcbaap a t
meaning enable_slot len t = commands.enable_slot t
meaning (disable_slot id) len t = commands.disable_slot id len t
meaning (address_device id P bsr) len t = commands.address_device usb_types id P bsr len t
meaning (configure_endpoint id P dc) len t = commands.configure_endpoint usb_types id P dc len t
meaning (evaluate_context id P) len t = commands.evaluate_context usb_types id P len t
meaning (reset_device id) len t = commands.reset_device id len t
meaning reset_all len t = commands.reset_all len t
meaning (stop_endpoint id i) len t = endpoint_call 11 12 id i Stop len t
meaning (reset_endpoint id i) len t = endpoint_call 11 12 id i Reset len t
meaning (set_dequeue id i d) len t = endpoint_call 11 12 id i (SetDequeue d) len t
meaning (doorbell id i l) len t = endpoint_call 11 12 id i (Doorbell l) len t
meaning (host_ok id i l) len t = endpoint_call 196 196 id i (Ok l) len t
meaning (host_stall id i g) len t = endpoint_call 196 196 id i (Stall g) len t
meaning (host_transaction_error id i g) len t = endpoint_call 196 196 id i (TransactionError g) len t
meaning (host_trb_error id i) len t = endpoint_call 196 196 id i TrbError len t

-- "Everything but the code is 0 in a refusal", and the table is as it was
abbrev pub told : Table → Result Told → Told
told t (ok r) = r
told t (refuse c) = (answer c, t)

unfoldable pub prog : Call → ℕ → Table → Prog Told
prog c len t = bind (meaning c len t) λ r. done (told t r)

-- an answer with its count of bytes stored, which is the run's
abbrev pub counted : Answer → ℕ → Answer
counted a n =
    record { code = a.code; slot = a.slot; launched = a.launched; terminated = a.terminated; port = a.port; stored = n; submit = a.submit; cancel = a.cancel }

-- what a call promises: r is the outcome, and m' the memory afterwards, of its program over the memory m
pub record Meets (p : Prog Told) (m : Mem) (r : Outcome) (m' : Mem) : Type 0 where
  pub answer : r.answer ≡ counted (run p m 0).value.0 (run p m 0).stored
  pub table : r.table ≡ (run p m 0).value.1
  pub memory : m' ≡ (run p m 0).memory

-- making a table: "too long a memory gives 197 and a table for length 0"
abbrev pub made : ℕ → Outcome
made len =
    cond (leb len 1073741824) (record { table = fresh_table len; answer = answer 0 }) (record { table = fresh_table 0; answer = answer 197 })
