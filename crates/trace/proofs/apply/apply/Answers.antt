-- `trace::apply::apply` meets its contract. Assumes nothing.
use Rattle.trace.specs.Events.{call_of}
use Rattle.trace.proofs.ApplyLaws.{answers_meaning}
use Rattle.trace.proofs.apply.apply.Goals as goal

pub returns-in-Endpoint : goal.returns-in-Endpoint
unfolding call_of
returns-in-Endpoint c =
    let sent = c.absent-slotless.ensures in
    rw c.in-Endpoint.is (answers_meaning _ _ _ (rw (c.from.ensures, c.code.ensures, c.code-in-Endpoint.ensures) (sent _ _ _ _)) c.reach.ensures)
