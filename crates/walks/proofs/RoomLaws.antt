-- What callers need: in a well formed table each enabled endpoint has its context in memory.
-- Assumes nothing.
use Prim.Native.Nat.{ℕ, ◌≤◌}
use native.Mathlib.Omega.{arith}
use Rattle.definition.specs.declared.Table.{Table}
use mathlib.Core.Path.{◌≡◌}
use mathlib.Core.Bool.{true}
use Rattle.definition.specs.Table.{endpoint_of, slot_of, well_formed}
use Rattle.definition.proofs.TableLaws.{IsSlot}
use Rattle.definition.proofs.FormedFacts.{Serve, ok_enabled, formed_fits, fits_serve}
use Rattle.walks.specs.Promises.{Rooms, AllRooms}

-- records that serve for a base have room
pub serve_rooms : (len base id : ℕ) (t : Table) → Serve len base id t → (lo : ℕ) → 1 ≤ lo → Rooms t id base lo len
serve_rooms len base id t s lo one i a b d = (ok_enabled len base i (endpoint_of t id i) (s i (omega arith, b)) d).0

-- so has each slot, whatever its state
pub formed_rooms : (t : Table) → well_formed t ≡ true → (id : ℕ) → IsSlot id → (lo : ℕ) → 1 ≤ lo → Rooms t id (slot_of t id).base lo t.length
formed_rooms t h id n lo one =
    serve_rooms t.length (slot_of t id).base id t (fits_serve (slot_of t id).state (slot_of t id) t id (formed_fits t h id n)) lo one

pub formed_all_rooms : (t : Table) → well_formed t ≡ true → AllRooms t t.length
formed_all_rooms t h id a b = formed_rooms t h id (a, b) 1 (omega arith)
