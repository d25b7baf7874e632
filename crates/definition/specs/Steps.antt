-- The endpoint steps: what each input does to an endpoint, in memory and in its record. Launch and terminate of one endpoint.
-- Assumes nothing.
use Rattle.std.specs.Prelude.{Bool, true, false, not, cond, ◌&&◌, List, [], ◌∷◌, ℕ, ◌+◌, ◌-◌, ◌%◌, eqb, get_or, unwrap_or, option_map}
use Rattle.guest.specs.Bytes.{number, bytes, pointer_of, cycle_of}
use Rattle.guest.specs.Prog.{Prog, done, get, put, choose, Result, ok, refuse, passed}
use Rattle.definition.specs.Types.{EndpointState, Disabled, Waiting, InFlight, Halted, Error, StoppedContinuable, Stopped, Endpoint, Option, Some, None, Dequeue, Look, Input, Doorbell, Stop, Reset, SetDequeue, Terminate, Ok, Stall, TransactionError, TrbError, Row}
use Rattle.definition.specs.Table.{endpoint_number, is_disabled, disabled}

-- ---- the entries

-- "Unlisted: command 19, doorbell 0 with no effect, host event 196"
abbrev pub wrong : Result Row
wrong = refuse 19

abbrev pub idle : Result Row
idle = ok (record { code = 0; next = None; byte = None; takes = false; looks = false; saves = false; cancels = false })

abbrev pub stray : Result Row
stray = refuse 196

-- "take its pointer and cycle; found gives In flight and submit, else Waiting"
abbrev pub look : Result Row
look = ok (record { code = 0; next = Some Waiting; byte = None; takes = true; looks = true; saves = false; cancels = false })

-- "byte 1; look"
abbrev pub resume : Result Row
resume = ok (record { code = 0; next = Some Waiting; byte = Some 1; takes = true; looks = true; saves = false; cancels = false })

-- "byte 3, save; Stopped"
abbrev pub stop : Result Row
stop = ok (record { code = 1; next = Some Stopped; byte = Some 3; takes = false; looks = false; saves = true; cancels = false })

-- "byte 3, save, cancel; Stopped-continuable"
abbrev pub break_off : Result Row
break_off = ok (record { code = 1; next = Some StoppedContinuable; byte = Some 3; takes = false; looks = false; saves = true; cancels = true })

-- "take the pointer if given; byte 2, save; Halted"
abbrev pub halt : Result Row
halt = ok (record { code = 0; next = Some Halted; byte = Some 2; takes = true; looks = false; saves = true; cancels = false })

-- "byte 4, save; Error"
abbrev pub fail : Result Row
fail = ok (record { code = 0; next = Some Error; byte = Some 4; takes = false; looks = false; saves = true; cancels = false })

-- "byte 3, take, save; Stopped"
abbrev pub aim : Result Row
aim = ok (record { code = 1; next = Some Stopped; byte = Some 3; takes = true; looks = false; saves = true; cancels = false })

-- "Terminate works in all": byte 0; the record becomes all zero
abbrev pub end : Result Row
end = ok (record { code = 1; next = Some Disabled; byte = Some 0; takes = true; looks = false; saves = false; cancels = false })

-- "Six resting states, nine inputs: these fifty-four entries are one fixed table."
-- Doorbell, Stop, Reset, Set Dequeue, Terminate, Ok, Stall, Transaction Error, TRB Error
abbrev pub steps : List (List (Result Row))
steps =
    -- Waiting
    (look ∷ stop ∷ wrong ∷ wrong ∷ end ∷ stray ∷ stray ∷ stray ∷ stray ∷ [])
    -- In flight
    ∷ (idle ∷ break_off ∷ wrong ∷ wrong ∷ end ∷ look ∷ halt ∷ halt ∷ fail ∷ [])
    -- Halted
    ∷ (idle ∷ wrong ∷ stop ∷ wrong ∷ end ∷ stray ∷ stray ∷ stray ∷ stray ∷ [])
    -- Error
    ∷ (idle ∷ wrong ∷ wrong ∷ aim ∷ end ∷ stray ∷ stray ∷ stray ∷ stray ∷ [])
    -- Stopped-continuable
    ∷ (resume ∷ wrong ∷ wrong ∷ aim ∷ end ∷ stray ∷ stray ∷ stray ∷ stray ∷ [])
    -- Stopped
    ∷ (resume ∷ wrong ∷ wrong ∷ aim ∷ end ∷ stray ∷ stray ∷ stray ∷ stray ∷ [])
    ∷ []

abbrev pub column : Input → ℕ
column (Doorbell l) = 0
column Stop = 1
column Reset = 2
column (SetDequeue d) = 3
column Terminate = 4
column (Ok l) = 5
column (Stall g) = 6
column (TransactionError g) = 7
column TrbError = 8

-- the entry for an enabled endpoint's state and an input
unfoldable pub entry : EndpointState → Input → Result Row
entry s i = get_or (get_or steps (endpoint_number s - 1) []) (column i) wrong

-- ---- what an input brings: a place, if one is given, and whether a TRB was found there

-- a place without a look
abbrev pub unlooked : Dequeue → Look
unlooked d = record { found = false; pointer = d.pointer; cycle = d.cycle }

-- Terminate brings place 0: the record of a disabled endpoint is all zero
abbrev pub report_of : Input → Option Look
report_of (Doorbell l) = Some l
report_of Stop = None
report_of Reset = None
report_of (SetDequeue d) = Some (unlooked d)
report_of Terminate = Some (unlooked (record { pointer = 0; cycle = false }))
report_of (Ok l) = Some l
report_of (Stall g) = option_map unlooked g
report_of (TransactionError g) = option_map unlooked g
report_of TrbError = None

-- ---- a step

-- the place that the step takes
abbrev pub taken : Row → Option Look → Option Look
taken r p = cond r.takes p None

abbrev pub has_trb : Option Look → Bool
has_trb None = false
has_trb (Some l) = l.found

-- a look that found a TRB
abbrev pub submits : Row → Option Look → Bool
submits r p = r.looks && has_trb p

abbrev pub unaligned : Option Look → Bool
unaligned None = false
unaligned (Some l) = not (eqb (l.pointer % 16) 0)

-- "where the step uses it, not a multiple of 16"
abbrev pub misaligned : Row → Option Look → Bool
misaligned r p = unaligned (taken r p)

abbrev pub next_state : Row → EndpointState → Option Look → EndpointState
next_state r s p = cond (submits r p) InFlight (unwrap_or r.next s)

-- the record in the state s, at the place that is taken, or else where it was
abbrev pub placed : EndpointState → Endpoint → Option Look → Endpoint
placed s e None = record { state = s; cycle = e.cycle; pointer = e.pointer }
placed s e (Some l) = record { state = s; cycle = l.cycle; pointer = l.pointer }

-- the record after the step
abbrev pub moved : Row → Endpoint → Option Look → Endpoint
moved r e p = placed (next_state r e.state p) e (taken r p)

-- the dequeue word: "pointer plus cycle"
abbrev pub word_of : Endpoint → ℕ
word_of e = e.pointer + cond e.cycle 1 0

-- what a step gives
pub record Stepped : Type 0 where
  pub endpoint : Endpoint
  pub code : ℕ
  pub submit : Bool
  pub cancel : Bool

abbrev pub put_byte : {A : Type 0} → Option ℕ → ℕ → Prog A → Prog A
put_byte None a p = p
put_byte (Some b) a p = put a (b ∷ []) p

abbrev pub put_when : {A : Type 0} → Bool → ℕ → List ℕ → Prog A → Prog A
put_when b a bs p = choose b (put a bs p) p

-- by an entry: the alignment is judged; then the state byte, and the "save" at context+8, of the endpoint whose context is at `at`
unfoldable pub step_by : Row → Endpoint → Option Look → ℕ → Prog (Result Stepped)
step_by r e p at =
    choose (misaligned r p) (done (refuse 195))
    (put_byte r.byte at
    (put_when r.saves (at + 8) (bytes 8 (word_of (moved r e p)))
    (done (ok (record { endpoint = moved r e p; code = r.code; submit = submits r p; cancel = r.cancels })))))

-- "State is judged before alignment"
unfoldable pub step : Endpoint → Input → ℕ → Prog (Result Stepped)
step e i at = passed (λ r. step_by r e (report_of i) at) (entry e.state i)

-- ---- launch and terminate of the endpoint whose context is at `at`

-- "store 1 at base+32i; take 8 bytes at base+32i+8: the pointer is the value with its low four bits cleared, the cycle is bit 0; the record becomes Waiting"
unfoldable pub launch_at : ℕ → Prog Endpoint
launch_at at =
    put at (1 ∷ [])
    (get (at + 8) 8 λ word. done (record { state = Waiting; cycle = cycle_of (number word); pointer = pointer_of (number word) }))

-- "store 0 at base+32i; the record becomes disabled. A disabled endpoint is passed over: no store"
unfoldable pub terminate_at : Endpoint → ℕ → Prog Endpoint
terminate_at e at = choose (is_disabled e) (done e) (put at (0 ∷ []) (done disabled))
