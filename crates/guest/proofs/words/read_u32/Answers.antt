-- `guest::words::read_u32` meets its contract. Assumes nothing.
use Rattle.guest.proofs.WordLaws.{number_four_at}
use Rattle.guest.proofs.words.read_u32.Goals as goal

pub returns : goal.returns
returns c = rw (c.from_le_bytes.ensures, c.load.ensures) (number_four_at c.args.mem.now c.args.at c.requires)
