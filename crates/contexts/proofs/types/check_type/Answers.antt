-- `contexts::types::check_type` meets its contract. Assumes nothing.
use mathlib.Core.Path.{sym, ◌∙◌}
use lib.ListN.{length}
use Rattle.guest.proofs.RunLaws.{located_fits}
use Rattle.std.proofs.lemmas.Result.{err_from_is_err_and}
use Rattle.definition.specs.declared.Refusal.TheVariants.{Outside}
use Rattle.contexts.proofs.CheckLaws.{found_some, refused_none, type_outside, type_refused, type_passes}
use Rattle.contexts.proofs.types.check_type.Goals as goal

pub returns-in_err-at : goal.returns-in_err-at
returns-in_err-at c = let a = c.args in
    let p = err_from_is_err_and c.from_residual.result c.from_residual.ensures.1 in
    let q = refused_none c.locate.result Outside (sym c.ok_or.ensures.value ∙ c.in_err-at.was) in
    rw (p.1, p.2, q.1) (type_outside a.pointer a.i a.mem.now c.plus-address.ensures c.locate.ensures q.0)

pub read_byte-byte-requires : goal.read_byte-byte-requires
read_byte-byte-requires c = located_fits (length c.args.mem.now) c.plus-address.result 1 (sym c.locate.ensures ∙ (found_some c.locate.result Outside (sym c.ok_or.ensures.value ∙ c.in_ok-at.was)))

pub returns-then-not-accepted : goal.returns-then-not-accepted
returns-then-not-accepted c = let a = c.args in
    type_refused a.pointer a.i a.mem.now c.plus-address.ensures c.locate.ensures (found_some c.locate.result Outside (sym c.ok_or.ensures.value ∙ c.in_ok-at.was)) c.read_byte-byte.ensures c.type_of.ensures c.accepted.ensures c.if-not-accepted.true

pub returns : goal.returns
returns c = let a = c.args in
    type_passes a.pointer a.i a.mem.now c.plus-address.ensures c.locate.ensures (found_some c.locate.result Outside (sym c.ok_or.ensures.value ∙ c.in_ok-at.was)) c.read_byte-byte.ensures c.type_of.ensures c.accepted.ensures c.if-not-accepted.false
