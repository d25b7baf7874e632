-- `walks::free_all` meets its contract. Assumes nothing.
use Rattle.walks.proofs.FreeLaws.{Freeing}
use Rattle.walks.proofs.free_all.Given as goal

abbrev pub invariant-loop-id : goal.invariant-loop-id
invariant-loop-id l = Freeing l.initial.t l.initial.mem l.id l.t l.mem l.stored
