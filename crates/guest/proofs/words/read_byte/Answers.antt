-- `guest::words::read_byte` meets its contract. Assumes nothing.
use Rattle.std.proofs.Common.{arith}
use Rattle.guest.proofs.WordLaws.{number_one}
use Rattle.guest.proofs.words.read_byte.Goals as goal

pub returns : goal.returns
returns c = let a = c.args in number_one a.mem.now a.at (omega arith)
