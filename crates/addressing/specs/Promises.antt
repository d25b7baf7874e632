-- What Address Device leaves, and what its parts promise.
-- Assumes nothing.
use Rattle.std.specs.Prelude.{◌≡◌, Bool, ℕ, ◌-◌, ◌*◌, length, set}
use Rattle.guest.specs.Prog.{Mem, Prog, Result, and_then}
use Rattle.std.specs.Prelude as std
use Rattle.std.specs.Prelude.{Ok, Err}
use Rattle.definition.specs.declared.Refusal.{Refusal}
use Rattle.definition.specs.Refusals.{code_of}
use Rattle.definition.specs.Table.{with_slot}
use Rattle.definition.specs.Commands.{Told, usb_types, context_check, plan, carry_out, copy_contexts}
use Rattle.walks.specs.Promises.{walk}
use Rattle.scan.specs.Records.{first_of}
use Rattle.scan.specs.Heads.{refusal}
use Rattle.commands.specs.Promises.{tallied, Carries, Settles}
use Rattle.addressing.specs.Types.{Endpoint, Slot, Table, Outcome}
use Rattle.addressing.specs.declared.Device.{Device}

-- the table with another endpoint 1 in slot id
abbrev pub with_first : Table → ℕ → Endpoint → Table
with_first t id e =
    record { limit = t.limit; length = t.length; dcbaap = t.dcbaap; slots = t.slots; endpoints = set t.endpoints ((id - 1) * 31) e }

-- success, with both records of the device
abbrev pub addressed : Table → ℕ → Device → Outcome
addressed t id d =
    tallied (with_slot (with_first t id d.endpoint) id d.slot) (record { launched = 2; terminated = d.terminated; port = d.port; stored = d.stored })

-- both contexts were copied, s bytes being stored before and x terminated, for any id and table
abbrev pub Copies : ℕ → Slot → ℕ → Mem → ℕ → Device → Mem → Type 0
Copies c slot x m s d m' =
    (id : ℕ) (t : Table) → Carries (copy_contexts id c slot.base slot.state slot.entry (walk t 0 x 0)) m s (addressed t id d) m'

-- the command, its slot being found
abbrev pub addressing : Slot → ℕ → Bool → ℕ → Table → ℕ → Prog (Result Told)
addressing s P bsr len t id = and_then (context_check usb_types len P) λ adds. carry_out len P t id s (plan s.state bsr)

abbrev pub outcome_of : Table → ℕ → std.Result Device Refusal → Outcome
outcome_of t id (Err e) = refusal t (code_of e)
outcome_of t id (Ok d) = addressed t id d

-- the program p was answered, for any id and table whose endpoint 1 is e
abbrev pub Addresses : Endpoint → (ℕ → Table → ℕ → Prog (Result Told)) → Mem → std.Result Device Refusal → Mem → Type 0
Addresses e p m r m' = (id : ℕ) (t : Table) → first_of t id ≡ e → Settles (p (length m) t id) t m (outcome_of t id r) m'
