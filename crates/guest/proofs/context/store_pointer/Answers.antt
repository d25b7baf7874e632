-- `guest::context::store_pointer` meets its contract. Assumes nothing.
use Rattle.std.proofs.Common.{arith}
use Rattle.guest.proofs.LentLaws.{lent_splice}
use Rattle.guest.proofs.context.store_pointer.Goals as goal

pub returns : goal.returns
returns c = let a = c.args in lent_splice a.mem.now a.at 8 _ _ (omega arith) c.store_u64.ensures
