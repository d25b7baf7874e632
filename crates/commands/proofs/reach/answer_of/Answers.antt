-- `commands::reach::answer_of` meets its contract. Assumes nothing.
use mathlib.Core.Path.{refl}
use Rattle.commands.proofs.ReachLaws.{one_if}
use Rattle.commands.proofs.reach.answer_of.Goals as goal

pub returns : goal.returns
returns c = rw (c.answer.ensures, c.from.ensures, c.from-2.ensures, one_if c.args.taken.submit, one_if c.args.taken.cancel) refl
