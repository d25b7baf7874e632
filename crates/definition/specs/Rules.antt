-- The reading rules: what a call's outcome may depend on in guest memory. "Only bytes read before a refusal count, and a range that is not wholly
-- inside reads nothing." Each address is written here anew, from the scope document, and shares no name with the programs.
-- Assumes nothing.
use Rattle.std.specs.Prelude.{◌≡◌, Bool, true, false, ℕ, ◌+◌, ◌*◌, ◌%◌, ◌^◌, ◌≤◌, ◌<◌, T, length}
use Rattle.guest.specs.Bytes.{number, bit, type_of}
use Rattle.guest.specs.Prog.{Mem, block, Within}
use Rattle.definition.specs.Types.{SlotState, Enabled, Default, Addressed, Configured, Slot, Table, Some}
use Rattle.definition.specs.Table.{lookup, well_formed}
use Rattle.definition.specs.Commands.{usb_types}
use Rattle.definition.specs.Calls.{Call, set_limit, set_dcbaap, enable_slot, disable_slot, address_device, configure_endpoint, evaluate_context, reset_device, reset_all, stop_endpoint, reset_endpoint, set_dequeue, doorbell, host_ok, host_stall, host_transaction_error, host_trb_error}

-- a is one of the n bytes from b on, all of which lie in memory
abbrev pub Bytes : Mem → ℕ → ℕ → ℕ → Type 0
Bytes m b n a = (b + n ≤ length m) × Within b n a

-- ---- the context check

-- add flag i, of 1 to 31, is set
abbrev pub Added : Mem → ℕ → ℕ → Type 0
Added m P i = (1 ≤ i) × (i ≤ 31) × T (bit (number (block m ((P + 4) % 2 ^ 64) 4)) i)

-- the type byte of endpoint i lies in memory, and its type is accepted
abbrev pub Accepted : (ℕ → Bool) → Mem → ℕ → ℕ → Type 0
Accepted accepts m P i =
    ((P + 32 * (i + 1) + 4) % 2 ^ 64 + 1 ≤ length m) × T (accepts (type_of (number (block m ((P + 32 * (i + 1) + 4) % 2 ^ 64) 1))))

-- "flags at P+4; the type bytes, up to the first bad one"
pub data CheckNamed (accepts : ℕ → Bool) (P : ℕ) (m : Mem) (a : ℕ) : Type 0 where
  flags : Bytes m ((P + 4) % 2 ^ 64) 4 a → CheckNamed accepts P m a
  types : (P + 4) % 2 ^ 64 + 4 ≤ length m → (i : ℕ) → Added m P i → ((j : ℕ) → j < i → Added m P j → Accepted accepts m P j)
      → Bytes m ((P + 32 * (i + 1) + 4) % 2 ^ 64) 1 a → CheckNamed accepts P m a

-- the check passes: for what is read after it
abbrev pub CheckPasses : (ℕ → Bool) → ℕ → Mem → Type 0
CheckPasses accepts P m = ((P + 4) % 2 ^ 64 + 4 ≤ length m) × ((i : ℕ) → Added m P i → Accepted accepts m P i)

-- ---- Address Device

-- the base that the copies go to: read from the DCBAA entry in Enabled, kept in Default
pub data Base (bsr : Bool) (s : Slot) (m : Mem) : ℕ → Type 0 where
  from_entry : s.state ≡ Enabled → s.entry + 8 ≤ length m → Base bsr s m (number (block m s.entry 8))
  kept : s.state ≡ Default → bsr ≡ false → Base bsr s m s.base

-- "flags at P+4; the type bytes, up to the first bad one; in Enabled the DCBAA entry; P+32 to P+95"
pub data AddressNamed (accepts : ℕ → Bool) (P : ℕ) (bsr : Bool) (s : Slot) (m : Mem) (a : ℕ) : Type 0 where
  check : CheckNamed accepts P m a → AddressNamed accepts P bsr s m a
  entry : CheckPasses accepts P m → s.state ≡ Enabled → Bytes m s.entry 8 a → AddressNamed accepts P bsr s m a
  contexts : CheckPasses accepts P m → (b : ℕ) → Base bsr s m b → b + 64 ≤ length m → Bytes m ((P + 32) % 2 ^ 64) 64 a
      → AddressNamed accepts P bsr s m a

-- ---- Configure Endpoint

-- the state is right for the command
pub data Settled : SlotState → Type 0 where
  is_addressed : Settled Addressed
  is_configured : Settled Configured

-- endpoint i, of 2 to 31, is added
abbrev pub Joins : Mem → ℕ → ℕ → Type 0
Joins m P i = (2 ≤ i) × Added m P i

-- every range of the call lies in memory
abbrev pub AllInside : Mem → ℕ → ℕ → Type 0
AllInside m P base =
    (P + 4 ≤ length m) × ((i : ℕ) → Joins m P i → ((P + 32 * (i + 1)) % 2 ^ 64 + 32 ≤ length m) × ((base + 32 * i) % 2 ^ 64 + 32 ≤ length m))

-- "DC=0: flags and type bytes, P to P+3, 32 bytes per added endpoint, and base+6 if any is added. DC=1: nothing."
pub data ConfigureNamed (accepts : ℕ → Bool) (P : ℕ) (s : Slot) (m : Mem) (a : ℕ) : Bool → Type 0 where
  check : Settled s.state → CheckNamed accepts P m a → ConfigureNamed accepts P s m a false
  drops : Settled s.state → CheckPasses accepts P m → Bytes m P 4 a → ConfigureNamed accepts P s m a false
  context : Settled s.state → CheckPasses accepts P m → AllInside m P s.base → (i : ℕ) → Joins m P i
      → Within ((P + 32 * (i + 1)) % 2 ^ 64) 32 a → ConfigureNamed accepts P s m a false
  port : Settled s.state → CheckPasses accepts P m → AllInside m P s.base → (i : ℕ) → Joins m P i
      → Within (s.base + 6) 1 a → ConfigureNamed accepts P s m a false

-- ---- every call

-- the call gets past 198, 194 and 11, and s is its slot
pub record Opened (t : Table) (m : Mem) (id : ℕ) (s : Slot) : Type 0 where
  pub formed : well_formed t ≡ true
  pub size : t.length ≡ length m
  pub used : lookup t id ≡ Some s

-- "Evaluate: flags and type bytes. All other calls: nothing."
unfoldable pub named : Call → Table → Mem → ℕ → Type 0
named (set_limit n) t m a = ⊥
named (set_dcbaap b) t m a = ⊥
named enable_slot t m a = ⊥
named (disable_slot id) t m a = ⊥
named (address_device id P bsr) t m a = (s : Slot) × Opened t m id s × AddressNamed usb_types P bsr s m a
named (configure_endpoint id P dc) t m a = (s : Slot) × Opened t m id s × ConfigureNamed usb_types P s m a dc
named (evaluate_context id P) t m a = (s : Slot) × Opened t m id s × CheckNamed usb_types P m a
named (reset_device id) t m a = ⊥
named reset_all t m a = ⊥
named (stop_endpoint id i) t m a = ⊥
named (reset_endpoint id i) t m a = ⊥
named (set_dequeue id i d) t m a = ⊥
named (doorbell id i l) t m a = ⊥
named (host_ok id i l) t m a = ⊥
named (host_stall id i g) t m a = ⊥
named (host_transaction_error id i g) t m a = ⊥
named (host_trb_error id i) t m a = ⊥
