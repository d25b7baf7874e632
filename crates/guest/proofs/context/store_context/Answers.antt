-- `guest::context::store_context` meets its contract. Assumes nothing.
use Rattle.std.proofs.Common.{arith}
use Rattle.guest.proofs.LentLaws.{lent}
use Rattle.guest.proofs.context.store_context.Goals as goal

pub returns : goal.returns
returns c = let a = c.args in lent a.mem.now a.at _ _ (omega arith) c.store.ensures
