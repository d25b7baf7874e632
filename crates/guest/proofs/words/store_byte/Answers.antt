-- `guest::words::store_byte` meets its contract. Assumes nothing.
use Rattle.std.proofs.Common.{sym}
use Rattle.guest.proofs.SpliceLaws.{splice_sets}
use Rattle.guest.proofs.words.store_byte.Goals as goal

pub returns : goal.returns
returns c = sym (splice_sets c.args.mem.now c.args.at _)
