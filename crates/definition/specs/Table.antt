-- The slot table: which record stands where, the table with one record changed, when it is well formed.
-- Assumes nothing.
use Rattle.std.specs.Prelude.{Bool, false, not, cond, ◌&&◌, ℕ, ◌+◌, ◌-◌, ◌*◌, ◌%◌, leb, eqb, get_or, set, replicate}
use Rattle.guest.specs.Bytes.{◌⊕◌, inside, count}
use Rattle.guest.specs.Prog.{all}
use Rattle.definition.specs.Types.{EndpointState, Disabled, Waiting, InFlight, Halted, Error, StoppedContinuable, Stopped, Endpoint, SlotState, Free, Enabled, Default, Addressed, Configured, Slot, Table, Option, Some, None}

-- ---- numbers of the states

abbrev pub endpoint_number : EndpointState → ℕ
endpoint_number Disabled = 0
endpoint_number Waiting = 1
endpoint_number InFlight = 2
endpoint_number Halted = 3
endpoint_number Error = 4
endpoint_number StoppedContinuable = 5
endpoint_number Stopped = 6

abbrev pub slot_number : SlotState → ℕ
slot_number Free = 0
slot_number Enabled = 1
slot_number Default = 2
slot_number Addressed = 3
slot_number Configured = 4

abbrev pub is_disabled : Endpoint → Bool
is_disabled e = eqb (endpoint_number e.state) 0

abbrev pub is_free : Slot → Bool
is_free s = eqb (slot_number s.state) 0

-- ---- records

abbrev pub disabled : Endpoint
disabled = record { state = Disabled; cycle = false; pointer = 0 }

abbrev pub free : Slot
free = record { state = Free; base = 0; entry = 0 }

-- endpoint i of slot id in the flat run
abbrev pub place : ℕ → ℕ → ℕ
place id i = (id - 1) * 31 + (i - 1)

unfoldable pub endpoint_of : Table → ℕ → ℕ → Endpoint
endpoint_of t id i = get_or t.endpoints (place id i) disabled

unfoldable pub slot_of : Table → ℕ → Slot
slot_of t id = get_or t.slots (id - 1) free

unfoldable pub with_endpoint : Table → ℕ → ℕ → Endpoint → Table
with_endpoint t id i e =
    record { limit = t.limit; length = t.length; dcbaap = t.dcbaap; slots = t.slots; endpoints = set t.endpoints (place id i) e }

unfoldable pub with_slot : Table → ℕ → Slot → Table
with_slot t id s =
    record { limit = t.limit; length = t.length; dcbaap = t.dcbaap; slots = set t.slots (id - 1) s; endpoints = t.endpoints }

unfoldable pub with_registers : Table → ℕ → ℕ → Table
with_registers t limit dcbaap =
    record { limit = limit; length = t.length; dcbaap = dcbaap; slots = t.slots; endpoints = t.endpoints }

-- "limit 0, DCBAAP 0, no slot"
unfoldable pub fresh_table : ℕ → Table
fresh_table len = record { limit = 0; length = len; dcbaap = 0; slots = replicate 16 free; endpoints = replicate 496 disabled }

-- the slot, unless its id is 0, above 16, or free
unfoldable pub lookup : Table → ℕ → Option Slot
lookup t id = cond (leb 1 id && leb id 16 && not (is_free (slot_of t id))) (Some (slot_of t id)) None

-- ---- well formed

-- "free slots and disabled endpoints are all zero"
unfoldable pub is_zero : Endpoint → Bool
is_zero e = is_disabled e && not e.cycle && eqb e.pointer 0

-- "each enabled endpoint i has its 32 bytes from base+32i wholly in memory, and an aligned pointer"
unfoldable pub endpoint_ok : ℕ → ℕ → ℕ → Endpoint → Bool
endpoint_ok len base i e = cond (is_disabled e) (is_zero e) (inside len (base ⊕ 32 * i) 32 && eqb (e.pointer % 16) 0)

-- "any later state has endpoint 1, and the 64 bytes from base lie wholly in memory"
unfoldable pub used_ok : Table → ℕ → ℕ → Bool
used_ok t id base =
    not (is_disabled (endpoint_of t id 1)) && inside t.length base 64 && all (count 31 1) (λ i. endpoint_ok t.length base i (endpoint_of t id i))

unfoldable pub no_endpoint : Table → ℕ → Bool
no_endpoint t id = all (count 31 1) (λ i. is_zero (endpoint_of t id i))

-- "an Enabled slot has base 0 and no endpoint"; a free slot is all zero, and so are its endpoints
abbrev pub slot_ok_in : SlotState → Slot → Table → ℕ → Bool
slot_ok_in Free s t id = eqb s.base 0 && eqb s.entry 0 && no_endpoint t id
slot_ok_in Enabled s t id = eqb s.base 0 && no_endpoint t id
slot_ok_in Default s t id = used_ok t id s.base
slot_ok_in Addressed s t id = used_ok t id s.base
slot_ok_in Configured s t id = used_ok t id s.base

unfoldable pub slot_ok : Table → ℕ → Bool
slot_ok t id = slot_ok_in (slot_of t id).state (slot_of t id) t id

-- "limit and length are in range"
unfoldable pub well_formed : Table → Bool
well_formed t = leb t.limit 16 && leb t.length 1073741824 && all (count 16 1) (slot_ok t)
