-- `registers::first_free` meets its contract. Assumes nothing.
use Rattle.std.proofs.Common.{rules, tests, arith, ◌∙◌, ◌+◌}
use Rattle.std.proofs.lemmas.Iterator.{YieldsList-from_range}
use Rattle.std.proofs.lemmas.Iterator.Search.{find_from_yields_List}
use Rattle.registers.proofs.RegisterLaws.{Free, found_first, same_found}
use Rattle.registers.proofs.first_free.Goals as goal

pub returns-clause-first : goal.returns-clause-first
returns-clause-first c = let a = c.args in
    same_found c.find.result
    (find_from_yields_List (Free a.slots) _ _ c.find.result c.find.ensures.ran (YieldsList-from_range 1 (a.limit + 1) a.limit (cc) (omega arith)) (λ x b q k. search (rules, tests)))
    ∙ found_first a.slots a.limit
