-- One slot's record or one endpoint's, as the scan tests it: the definition's tests, the slot's own part apart from its endpoints' records.
-- Assumes nothing.
use Rattle.std.specs.Prelude.{Bool, not, ◌&&◌, ℕ, ◌-◌, ◌*◌, eqb, ltb, get_or}
use Rattle.guest.specs.Bytes.{inside}
use Rattle.scan.specs.Types.{Endpoint, SlotState, Free, Enabled, Default, Addressed, Configured, Slot, Table}
use Rattle.definition.specs.Table.{slot_number, is_disabled, disabled}

-- endpoint 1's record, where the code reads it in the flat run
abbrev pub first_of : Table → ℕ → Endpoint
first_of t id = get_or t.endpoints ((id - 1) * 31) disabled

-- a slot past Enabled has contexts
abbrev pub has_contexts : SlotState → Bool
has_contexts state = ltb 1 (slot_number state)

-- "any later state has endpoint 1, and the 64 bytes from base lie wholly in memory"
unfoldable pub in_use : Slot → Endpoint → ℕ → Bool
in_use s first len = not (is_disabled first) && inside len s.base 64

-- the slot's own part, with its endpoint 1, by its state
abbrev pub own_in : SlotState → Slot → Endpoint → ℕ → Bool
own_in Free s first len = eqb s.base 0 && eqb s.entry 0
own_in Enabled s first len = eqb s.base 0
own_in Default s first len = in_use s first len
own_in Addressed s first len = in_use s first len
own_in Configured s first len = in_use s first len

unfoldable pub own_ok : Slot → Endpoint → ℕ → Bool
own_ok s first len = own_in s.state s first len

-- faults in which nothing is wrong
abbrev pub clear : ℕ → Bool → ℕ → Bool
clear flags cycle pointer = eqb flags 0 && not cycle && eqb pointer 0
