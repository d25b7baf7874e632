-- What this crate's functions ask of their callers, and what they promise.
-- Assumes nothing.
use Rattle.std.specs.Prelude.{◌≡◌, true, false, List, ℕ, ◌+◌, ◌-◌, ◌*◌, ◌^◌, ◌≤◌, ◌<◌, length, get_or, take, drop, ◌++◌}
use Rattle.guest.specs.Bytes.{number, ◌⊕◌, count, bit, set_bits}
use Rattle.guest.specs.Prog.{Mem, Prog, done, get, put, bind, each, Ends}
use Rattle.definition.specs.declared.Endpoint.{Endpoint}
use Rattle.definition.specs.declared.Table.{Table}
use Rattle.definition.specs.Table.{is_disabled, disabled, endpoint_of, slot_of}
use Rattle.definition.specs.Steps.{launch_at}
use Rattle.definition.specs.Walks.{Walk, begin, terminate_all}
use Rattle.definition.specs.Commands.{add_all, freeing}
use Rattle.walks.specs.declared.Ended.{Ended}
use Rattle.walks.specs.declared.Marks.{Marks}
use Rattle.walks.specs.declared.Launched.{Launched}
use Rattle.walks.specs.declared.Added.{Added}
use Rattle.walks.specs.declared.Freed.{Freed}

-- a command on its way, by its parts
abbrev pub walk : Table → ℕ → ℕ → ℕ → Walk
walk t launched terminated port = record { table = t; launched = launched; terminated = terminated; port = port }

-- ---- terminations

-- each enabled endpoint of slot id, from lo on, has its context in a memory of len bytes
abbrev pub Rooms : Table → ℕ → ℕ → ℕ → ℕ → Type 0
Rooms t id base lo len = (i : ℕ) → lo ≤ i → i ≤ 31 → is_disabled (endpoint_of t id i) ≡ false → (base ⊕ 32 * i) + 32 ≤ len

-- endpoints `is` of slot id were terminated, in order: at most n were enabled
pub record TerminatesAll (id base : ℕ) (is : List ℕ) (n : ℕ) (t : Table) (m : Mem) (r : Ended) (m' : Mem) : Type 0 where
  pub ends : Ends (terminate_all id base is (begin t)) m 0 (walk r.table 0 r.terminated 0) m' r.stored
  pub few : r.stored ≤ n
  pub fits : r.terminated < 2 ^ 32

-- the record of endpoint i among a slot's 31
abbrev pub record_of : List Endpoint → ℕ → Endpoint
record_of es i = get_or es (i - 1) disabled

-- t, with these 31 records in the place of slot id's
unfoldable pub with_records : Table → ℕ → List Endpoint → Table
with_records t id es =
    let first = (id - 1) * 31 in
    record {
      limit = t.limit;
      length = t.length;
      dcbaap = t.dcbaap;
      slots = t.slots;
      endpoints = take first t.endpoints ++ (es ++ drop 31 (drop first t.endpoints));
    }

-- each enabled one of these records, from lo on, has its context in a memory of len bytes
abbrev pub RoomsIn : List Endpoint → ℕ → ℕ → ℕ → Type 0
RoomsIn es base lo len = (i : ℕ) → lo ≤ i → i ≤ 31 → is_disabled (record_of es i) ≡ false → (base ⊕ 32 * i) + 32 ≤ len

-- of these records those from lo on whose flag is set were terminated, in order, whichever slot's they are
pub record EndsFlagged (base lo flags : ℕ) (es : List Endpoint) (m : Mem) (r : Marks) (es' : List Endpoint) (m' : Mem) : Type 0 where
  pub ends : (t : Table) (id : ℕ) → 1 ≤ id → id ≤ 16 → length t.endpoints ≡ 496
      → Ends (terminate_all id base (set_bits (32 - lo) lo flags) (begin (with_records t id es))) m 0 (walk (with_records t id es') 0 r.mask 0) m' r.stored
  pub few : r.stored ≤ 32 - lo
  pub fits : r.mask < 2 ^ 32

-- ---- launches

-- the 32 bytes at c to base+32i, then launch i: the endpoint's record, and the root port
unfoldable pub copy_launch_at : ℕ → ℕ → ℕ → Prog Launched
copy_launch_at base c i =
    get c 32 λ context.
    put (base ⊕ 32 * i) context
    (get (base + 6) 1 λ port. bind (launch_at (base ⊕ 32 * i)) λ e. done (record { endpoint = e; port = number port }))

-- what a copy and launch of endpoint i touches lies in a memory of len bytes: both contexts, and the device context's first 64 bytes
pub record Space (base c i len : ℕ) : Type 0 where
  pub input : c + 32 ≤ len
  pub output : (base ⊕ 32 * i) + 32 ≤ len
  pub head : base + 64 ≤ len

-- endpoint i was copied from c and launched
pub record CopyLaunches (base c i : ℕ) (m : Mem) (r : Launched) (m' : Mem) : Type 0 where
  pub ends : Ends (copy_launch_at base c i) m 0 r m' 33
  pub byte : r.port < 256

-- each endpoint past the first whose add flag is set has that space, its input context being block i + 1 from P on
abbrev pub Spaces : ℕ → ℕ → ℕ → ℕ → Type 0
Spaces P base adds len = (i : ℕ) → 2 ≤ i → i ≤ 31 → bit adds i ≡ true → Space base (P ⊕ 32 * (i + 1)) i len

-- endpoints `is` of slot id were added, in order, whatever was terminated before
pub record AddsAll (id P base : ℕ) (is : List ℕ) (t : Table) (m : Mem) (r : Added) (m' : Mem) : Type 0 where
  pub ends : (x : ℕ) → Ends (add_all id P base is (walk t 0 x 0)) m 0 (walk r.table r.launched x r.port) m' r.stored
  pub few : r.stored ≤ 990
  pub fits : r.launched < 2 ^ 32
  pub byte : r.port < 256

-- ---- all slots

-- each enabled endpoint of each slot has its context in a memory of len bytes
abbrev pub AllRooms : Table → ℕ → Type 0
AllRooms t len = (id : ℕ) → 1 ≤ id → id ≤ 16 → Rooms t id (slot_of t id).base 1 len

-- each slot was freed, ascending
pub record FreesAll (t : Table) (m : Mem) (r : Freed) (m' : Mem) : Type 0 where
  pub ends : Ends (each (count 16 1) (λ id u. bind (freeing id u) λ w. done w.table) t) m 0 r.table m' r.stored
  pub few : r.stored ≤ 496
