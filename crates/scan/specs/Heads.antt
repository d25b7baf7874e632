-- How a call begins, as values. "Order of checks: 198; 194 (calls that lend memory); 11 .."
-- Assumes nothing.
use Rattle.std.specs.Prelude.{Bool, true, false, not, cond, ◌&&◌, List, ℕ, ◌-◌, leb, eqb, get_or, Result, Ok, Err}
use Rattle.scan.specs.Types.{Endpoint, Slot, Table, Option, Some, None, Outcome, Refusal, OtherMemory, Malformed}
use Rattle.definition.specs.Table.{is_free, free, disabled, endpoint_of, well_formed, lookup}
use Rattle.definition.specs.Commands.{answer}
use Rattle.definition.specs.Refusals.{code_of}
use Rattle.scan.specs.declared.Head.{Head}

-- 198, 194, or 0 where neither is due
abbrev pub judged : Bool → Bool → ℕ
judged well_formed same_length = cond well_formed (cond same_length 0 194) 198

-- .. of a call that lends len bytes with the table t
unfoldable pub code_for : Table → ℕ → ℕ
code_for t len = judged (well_formed t) (eqb t.length len)

-- how a call begins: refused, or not
abbrev pub Begun : Type 0 → Type 0
Begun A = Result A Refusal

-- the code of the refusal, or 0
abbrev pub number : {A : Type 0} → Begun A → ℕ
number (Ok a) = 0
number (Err refusal) = code_of refusal

-- 198, 194, or what is found where neither is due
abbrev pub begun : {A : Type 0} → Bool → Bool → A → Begun A
begun true true a = Ok a
begun true false a = Err OtherMemory
begun false same_length a = Err Malformed

-- .. of a call that lends len bytes with the table t, and is for no slot
unfoldable pub checked : Table → ℕ → Begun (Unit {0})
checked t len = begun (well_formed t) (eqb t.length len) tt

-- the record of endpoint i of slot id; a disabled endpoint's where no endpoint has the number i
unfoldable pub record_at : Table → ℕ → ℕ → Endpoint
record_at t id i = cond (leb 1 i && leb i 31) (endpoint_of t id i) disabled

-- what the look for the slot found, and the endpoint's record with it
abbrev pub head_of : Table → ℕ → ℕ → Option Slot → Head
head_of t id i None = record { found = None; endpoint = disabled }
head_of t id i (Some s) = record { found = Some s; endpoint = record_at t id i }

-- the refusal of a call that lends len bytes; and where there is none what was found of slot id and its endpoint i
unfoldable pub head_for : Table → ℕ → ℕ → ℕ → Begun Head
head_for t len id i = begun (well_formed t) (eqb t.length len) (head_of t id i (lookup t id))

-- the slot of this id among the table's slots
unfoldable pub found_in : List Slot → ℕ → Option Slot
found_in slots id =
    let s = get_or slots (id - 1) free in
    cond (leb 1 id && leb id 16 && not (is_free s)) (Some s) None

-- "Everything but the code is 0 in a refusal", and the table is as it was
abbrev pub refusal : Table → ℕ → Outcome
refusal t code = record { table = t; answer = answer code }
