-- `commands::device::evaluate_context` meets its contract. Assumes nothing.
use mathlib.Core.Path.{◌∙◌}
use Rattle.guest.proofs.RunLaws.{run_done}
use Rattle.definition.specs.Calls.{prog, meaning}
use Rattle.definition.specs.Commands as commands
use Rattle.contexts.proofs.CheckLaws.{check_goes_on, check_refuses}
use Rattle.scan.proofs.OpeningLaws.{refuses_with, meets_ok}
use Rattle.commands.proofs.OutcomeLaws.{opened_settles}
use Rattle.commands.proofs.device.evaluate_context.Goals as goal

pub returns-in-Err : goal.returns-in-Err
unfolding prog meaning commands.evaluate_context
returns-in-Err c = let a = c.args in
    rw c.refuse.ensures
    (opened_settles 11 a.t a.id _ c.requires (refuses_with a.t (check_refuses a.pointer a.mem.now _ c.context_check.ensures c.in-Err.is)))

pub returns : goal.returns
unfolding prog meaning commands.evaluate_context
returns c = let a = c.args in
    rw c.success.ensures
    (opened_settles 11 a.t a.id _ c.requires (meets_ok a.t (record { ends = check_goes_on a.pointer a.mem.now _ c.context_check.ensures c.in_default.is ∙ run_done _ _ _ })))
