-- What the calls that do not scan the table ask.
-- Assumes nothing.
use Rattle.std.specs.Prelude.{◌≡◌, true, length}
use Rattle.guest.specs.Prog.{Mem}
use Rattle.definition.specs.declared.Table.{Table}
use Rattle.definition.specs.Table.{well_formed}

-- a well formed table, for a memory of this one's length
pub record Ready (t : Table) (m : Mem) : Type 0 where
  pub formed : well_formed t ≡ true
  pub size : t.length ≡ length m
