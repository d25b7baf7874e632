-- `guest::context::store_state` meets its contract. Assumes nothing.
use Rattle.std.proofs.Common.{arith}
use Rattle.guest.proofs.LentLaws.{lent}
use Rattle.guest.proofs.context.store_state.Goals as goal

pub returns : goal.returns
returns c = let a = c.args in lent a.mem.now a.at _ _ (omega arith) c.store_byte.ensures
