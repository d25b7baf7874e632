-- `slot_manager::reset_all` meets its contract. Assumes nothing.
use Rattle.definition.specs.Commands as commands
use Rattle.definition.specs.Calls.{meaning, prog}
use Rattle.scan.proofs.OpeningLaws.{refuses_lent, is_lent}
use Rattle.slot_manager.proofs.reset_all.Goals as goal

pub returns-in-Err : goal.returns-in-Err
unfolding prog meaning commands.reset_all
returns-in-Err c = let a = c.args in
    rw c.refuse.ensures (refuses_lent a.t _ c.checks.ensures _ _ c.in-Err.is)

pub reset_all-requires : goal.reset_all-requires
reset_all-requires c = let l = is_lent _ _ c.checks.ensures c.in_default.is in (l.formed, l.size)
