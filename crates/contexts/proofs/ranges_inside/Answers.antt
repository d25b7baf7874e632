-- `contexts::ranges_inside` meets its contract. Assumes nothing.
use Rattle.std.proofs.Common.{rules, tests, refl}
use Rattle.std.proofs.Common.{◌∙◌}
use Rattle.std.proofs.lemmas.Iterator.{YieldsList-from_range}
use Rattle.std.proofs.lemmas.Iterator.Search.{all_from_yields_List}
use Rattle.contexts.proofs.RangeLaws.{Passes, ranges_tested}
use Rattle.contexts.proofs.ranges_inside.Goals as goal

pub returns : goal.returns
returns c = let a = c.args in
    all_from_yields_List (Passes a.length a.pointer a.base a.adds) _ _ _ c.all.ensures.ran (YieldsList-from_range 2 32 30 (cc) (refl)) (λ x b q k. search (rules, tests))
    ∙ ranges_tested a.length a.pointer a.base a.adds
