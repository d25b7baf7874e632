-- `player::put_line` meets its contract. Assumes nothing.
use mathlib.Core.Path.{refl}
use native.Mathlib.Omega.{arith}
use Rattle.std.proofs.lemmas.Grind.{common_steps}
use Rattle.player.proofs.LineLaws.{lining_begins, lining_goes, lining_ends}
use Rattle.player.proofs.put_line.Goals as goal

pub loop-n-init : goal.loop-n-init
loop-n-init c = lining_begins c.requires.room c.requires.eight c.put_number-end.ensures

pub loop-n-preserved : goal.loop-n-preserved
loop-n-preserved c =
    lining_goes
    c.loop-n.invariant
    (grind (arith, common_steps))
    c.requires.eight
    _
    (grind (arith, common_steps))
    _
    refl
    c.put_number.ensures

pub returns : goal.returns
returns c = lining_ends c.loop-n.invariant (grind (arith, common_steps))
