-- `player::part` meets its contract. Assumes nothing.
use mathlib.Core.List.{List}
use mathlib.Core.Path.{refl}
use Rattle.std.specs.Prelude.{Result, Ok, Err, IsOk, IsOkAnd}
use Prim.Native.Nat.{ℕ}
use native.Mathlib.Omega.{arith}
use lib.ListN.{length-take}
use Rattle.definition.specs.declared.Table.{Table}
use Rattle.definition.proofs.TableLaws.{Sized}
use Rattle.formed.specs.Promises.{Ready}
use Rattle.session.specs.declared.Ran.{Ran}
use Rattle.session.specs.declared.Refused.{Refused}
use Rattle.session.specs.Sessions.{Runs}
use Rattle.session.proofs.SizeLaws.{table_sized}
use Rattle.session.proofs.RunLaws.{ready_plays}
use Rattle.session.proofs.PartLaws.{plays_ready}
use Rattle.session.proofs.CountLaws.{answers_fit}
use Rattle.player.proofs.part.Goals as goal

-- nothing was refused
is_run : (r : Result Ran Refused) (P : Ran → Type 0) → IsOkAnd r P → IsOk r
is_run (Ok x) P h = refl
is_run (Err e) P h = absurd h

-- the table and the memory fit each other as before
stays : {t : Table} {m bs ns : List ℕ} {r : Ran} {m' ns' : List ℕ} → Runs t m bs ns (Ok r) m' ns' → Sized t → Ready t m → Ready r.table m'
stays x z w = plays_ready x.played (record { sized = z; formed = w.formed }) w.size

pub unwrap-ran-requires : goal.unwrap-ran-requires
unwrap-ran-requires g c =
    let room = c.requires.rooms in
    is_run _ _ (ready_plays c.requires.ready (omega (arith, length-take c.in_ok-count.count c.read_full.new.buf, c.read_full.auto.buf, room.0, room.1)) c.run.ensures)

pub show-requires-clause-answered : goal.show-requires-clause-answered
show-requires-clause-answered g c = answers_fit (rw c.unwrap-ran.ensures at c.run.ensures)

pub returns-then-ran : goal.returns-then-ran
returns-then-ran g c = stays (rw c.unwrap-ran.ensures at c.run.ensures) (table_sized _ _ c.well_formed.1.1.0) c.requires.ready

pub returns-then-count-records : goal.returns-then-count-records
returns-then-count-records g c = stays (rw c.unwrap-ran.ensures at c.run.ensures) (table_sized _ _ c.well_formed.1.1.0) c.requires.ready

pub returns : goal.returns
returns g c = stays (rw c.unwrap-ran.ensures at c.run.ensures) (table_sized _ _ c.well_formed.1.1.0) c.requires.ready
