-- `player::replay` meets its contract. Assumes nothing.
use mathlib.Core.Path.{◌≡◌, sym}
use Prim.Native.Nat.{ℕ}
use Rattle.definition.specs.declared.Outcome.{Outcome}
use Rattle.definition.specs.Table.{fresh_table}
use Rattle.definition.specs.Calls.{made}
use Rattle.definition.proofs.FormedCalls.{made_proper}
use Rattle.formed.specs.Promises.{Ready}
use lib.ListN.{replicate, length-replicate}
use Rattle.player.proofs.replay.Goals as goal

-- a fresh table, and its memory
fresh : {r : Outcome} → r ≡ made 65536 → Ready r.table (replicate {A = ℕ} 65536 0)
unfolding fresh_table
fresh e = rw e (record { formed = (made_proper 65536).formed; size = sym (length-replicate {A = ℕ} 65536 0) })

pub loop-init : goal.loop-init
loop-init g c = fresh c.make_table.ensures
