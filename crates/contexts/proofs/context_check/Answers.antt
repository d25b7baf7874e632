-- `contexts::context_check` meets its contract. Assumes nothing.
use native.Mathlib.Omega.{arith}
use mathlib.Core.Path.{sym, ◌∙◌}
use lib.ListN.{length}
use Rattle.guest.proofs.RunLaws.{located_fits}
use Rattle.std.proofs.lemmas.Result.{err_from_is_err_and}
use Rattle.definition.specs.declared.Refusal.TheVariants.{Outside}
use Rattle.contexts.proofs.CheckLaws.{found_some, refused_none, flags_outside, flags_checked}
use Rattle.contexts.proofs.context_check.Goals as goal

pub returns-in_err-at : goal.returns-in_err-at
returns-in_err-at c = let a = c.args in
    let p = err_from_is_err_and c.from_residual.result c.from_residual.ensures.1 in
    let q = refused_none c.locate.result Outside (sym c.ok_or.ensures.value ∙ c.in_err-at.was) in
    rw (p.1, p.2, q.1) (flags_outside a.pointer a.mem.now c.plus-address.ensures c.locate.ensures q.0)

pub read_u32-adds-requires : goal.read_u32-adds-requires
read_u32-adds-requires c = located_fits (length c.args.mem.now) c.plus-address.result 4 (sym c.locate.ensures ∙ (found_some c.locate.result Outside (sym c.ok_or.ensures.value ∙ c.in_ok-at.was)))

pub returns : goal.returns
returns c = let a = c.args in
    flags_checked a.pointer a.mem.now c.plus-address.ensures c.locate.ensures (found_some c.locate.result Outside (sym c.ok_or.ensures.value ∙ c.in_ok-at.was)) c.read_u32-adds.ensures (omega arith) c.check_types.ensures
