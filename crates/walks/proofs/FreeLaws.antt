-- Laws of the walk over all slots: each slot's endpoints are terminated, and the slot is freed.
-- Assumes nothing.
use mathlib.Core.Path.{◌≡◌, ◌∙◌}
use mathlib.Core.List.{List}
use Prim.Native.Nat.{ℕ, ◌+◌, ◌-◌, ◌*◌, ◌^◌, ◌≤◌, ◌<◌}
use native.Mathlib.Omega.{arith}
use lib.ListN.{length}
use Rattle.guest.specs.Bytes.{count}
use Rattle.guest.specs.Prog.{Mem, Prog, done, bind}
use Rattle.guest.proofs.LoopLaws.{Loop, loop_begins, loop_goes, loop_ends}
use Rattle.guest.proofs.ListLaws.{count_first, count_none}
use Rattle.guest.proofs.RunLaws.{ends_from, ends_value}
use Rattle.definition.specs.declared.Endpoint.{Endpoint}
use Rattle.definition.specs.declared.Table.{Table}
use Rattle.definition.specs.Table.{free, slot_of, with_slot}
use Rattle.definition.specs.Commands.{freeing}
use Rattle.definition.proofs.TableLaws.{IsSlot, endpoint_slot, slot_other}
use Rattle.walks.specs.declared.Freed.{Freed}
use Rattle.walks.specs.declared.Marks.{Marks}
use Rattle.walks.specs.Promises.{with_records, Rooms, RoomsIn, EndsFlagged, AllRooms, FreesAll}
use Rattle.walks.proofs.RecordLaws.{records_of, records_rooms, records_elsewhere, records_slot, records_size, records_length}
use Rattle.walks.proofs.WalkLaws.{ended_from}

-- each enabled endpoint of the slots from id on has its context in memory
abbrev RoomsFrom : ℕ → Table → ℕ → Type 0
RoomsFrom id u len = (j : ℕ) → id ≤ j → j ≤ 16 → Rooms u j (slot_of u j).base 1 len

-- ---- all slots, on their way: those from id on are left

abbrev free_one : ℕ → Table → Prog Table
free_one id u = bind (freeing id u) λ w. done w.table

pub record Freeing (t : Table) (m₀ : Mem) (id : ℕ) (u : Table) (m : Mem) (s : ℕ) : Type 0 where
  pub low : 1 ≤ id
  pub high : id ≤ 17
  pub loop : Loop free_one (count 16 1) t m₀ 0 (count (17 - id) id) u m s
  pub few : s + 31 ≤ 31 * id
  pub rooms : RoomsFrom id u (length m₀)
  pub size : length u.endpoints ≡ 496

pub freeing_begins : (t : Table) (m : Mem) → length t.endpoints ≡ 496 → AllRooms t (length m) → Freeing t m 1 t m 0
freeing_begins t m z r =
    record { low = omega arith; high = omega arith; loop = loop_begins free_one (count 16 1) t m 0; few = omega arith; rooms = r; size = z }

module _ {t : Table} {m₀ : Mem} {id : ℕ} {u : Table} {m : Mem} {s : ℕ} where
  -- the records of slot id have room
  pub freeing_rooms : Freeing t m₀ id u m s → id ≤ 16 → RoomsIn (records_of u id) (slot_of u id).base 1 (length m)
  freeing_rooms g h =
      rw g.loop.size (records_rooms u id (slot_of u id).base 1 (length m₀) g.size (g.low, h) (omega arith) (g.rooms id (omega arith) h))

  -- slot id is freed
  pub freeing_goes : Freeing t m₀ id u m s → id ≤ 16 → {r : Marks} {es : List Endpoint} {m' : Mem}
      → EndsFlagged (slot_of u id).base 1 (2 ^ 32 - 1) (records_of u id) m r es m' → length m' ≡ length m → length es ≡ length (records_of u id)
      → Freeing t m₀ (id + 1) (with_slot (with_records u id es) id free) m' (s + r.stored)
  unfolding freeing with_slot
  freeing_goes g h {r} {es} d n same =
      let k : IsSlot id = (g.low, h) in
      let z : length es ≡ 31 = same ∙ records_length u id g.size k in
      let v = with_records u id es in
      let gone = ended_from u id (slot_of u id).base 1 k (omega arith) g.size d in
      record {
        low = omega (arith, g.low);
        high = omega arith;
        size = records_size u id g.size k es z;
        loop =
            loop_goes free_one g.loop (count_first 17 id (omega arith))
            (ends_value (λ w. w.table) (ends_value (λ w. record { table = with_slot w.table id free; launched = w.launched; terminated = w.terminated; port = w.port })
            (ends_from gone.ends s)))
            n;
        few = omega (arith, g.few, gone.few);
        rooms =
            λ j a b i p q.
            rw (
              endpoint_slot v id free j i,
              slot_other v id free j g.low (omega arith) (λ e. omega arith),
              records_elsewhere u id g.size k es z j i (omega arith) (λ e. omega arith) (p, q),
              records_slot u id es j,
            )
            (g.rooms j (omega arith) b i p q);
      }

-- none is left
pub freeing_ends : {t : Table} {m₀ : Mem} {id : ℕ} {r : Freed} {m : Mem} → Freeing t m₀ id r.table m r.stored → 16 < id → FreesAll t m₀ r m
freeing_ends {id = id} g h =
    record { ends = loop_ends free_one g.loop (count_none (17 - id) id (omega arith)); few = omega (arith, g.few, g.high) }
