-- `formed::evaluate_context` meets its contract. Assumes nothing.
use Rattle.definition.specs.Calls.{prog}
use Rattle.formed.proofs.CallLaws.{evaluates, ready_refused}
use Rattle.formed.proofs.evaluate_context.Goals as goal

pub returns-in_default : goal.returns-in_default
unfolding prog
returns-in_default c = rw c.refuse.ensures (ready_refused (evaluates _ _) c.requires c.lookup.ensures c.in_default.is)
