-- `guest::words::store_u64` meets its contract. Assumes nothing.
use Rattle.guest.proofs.WordLaws.{bytes_eight}
use Rattle.guest.proofs.words.store_u64.Goals as goal

pub returns : goal.returns
returns c = rw (← bytes_eight c.args.x, ← c.to_le_bytes.ensures) c.store.ensures
