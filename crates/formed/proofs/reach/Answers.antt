-- `formed::reach` meets its contract. Assumes nothing.
use Rattle.formed.proofs.CallLaws.{reaches, ready_refused, ready_opens, reach_ready, reached}
use Rattle.formed.proofs.reach.Goals as goal

pub returns-in_default : goal.returns-in_default
returns-in_default c = let a = c.args in
    rw c.refused.ensures (ready_refused (reaches a.slotless a.absent a.id a.i a.input) c.requires c.lookup.ensures c.in_default.is)

pub reach-requires : goal.reach-requires
reach-requires c = reach_ready (ready_opens c.requires c.lookup.ensures c.in-Some.is)

pub returns : goal.returns
returns c = let a = c.args in
    reached a.slotless a.absent a.i a.input (ready_opens c.requires c.lookup.ensures c.in-Some.is) c.reach.ensures
