-- `commands::configure::flags_of` meets its contract. Assumes nothing.
use mathlib.Core.Path.{◌≡◌, sym, ◌∙◌}
use native.Mathlib.Omega.{arith}
use lib.ListN.{length}
use Rattle.std.specs.Prelude.{Some, None}
use Rattle.std.proofs.lemmas.Result.{err_from_is_err_and}
use Rattle.definition.specs.declared.Refusal.TheVariants.{Outside}
use Rattle.guest.proofs.RunLaws.{located_fits}
use Rattle.commands.proofs.ConfigureLaws.{check_refused, drops_outside, ranges_outside, reconfigures, ranges_space, plan_refuses, plan_goes}
use Rattle.commands.proofs.configure.flags_of.Goals as goal

pub returns-in_err-adds : goal.returns-in_err-adds
returns-in_err-adds c = let a = c.args in
    let p = err_from_is_err_and c.from_residual.result c.from_residual.ensures.1 in
    rw (p.1, p.2)
    (plan_refuses a.pointer a.slot a.mem.now c.requires.0 _ (λ id t. check_refused id a.pointer a.slot t a.mem.now c.context_check.ensures c.in_err-adds.was))

pub returns-in_err-at : goal.returns-in_err-at
returns-in_err-at c = let a = c.args in
    let p = err_from_is_err_and c.from_residual-in_err-at.result c.from_residual-in_err-at.ensures.1 in
    let out : c.locate.result ≡ None = grind arith in
    let of : c.in_err-at.field-0.0 ≡ Outside = grind arith in
    rw (p.1, p.2, of)
    (plan_refuses a.pointer a.slot a.mem.now c.requires.0 Outside
    (λ id t. drops_outside id a.pointer a.slot t a.mem.now c.context_check.ensures c.in_ok-adds.was c.locate.ensures out))

pub read_u32-drops-requires : goal.read_u32-drops-requires
read_u32-drops-requires c = let a = c.args in
    let here : c.locate.result ≡ Some c.in_ok-at.at = grind arith in
    located_fits (length a.mem.now) a.pointer 4 (sym c.locate.ensures ∙ here)

pub returns-then-not-ranges_inside : goal.returns-then-not-ranges_inside
returns-then-not-ranges_inside c = let a = c.args in
    let here : c.locate.result ≡ Some c.in_ok-at.at = grind arith in
    plan_refuses a.pointer a.slot a.mem.now c.requires.0 Outside
    (λ id t. ranges_outside id a.pointer a.slot t a.mem.now c.context_check.ensures c.in_ok-adds.was c.locate.ensures here c.read_u32-drops.ensures c.ranges_inside.ensures c.if-not-ranges_inside.true)

pub returns : goal.returns
returns c = let a = c.args in
    let here : c.locate.result ≡ Some c.in_ok-at.at = grind arith in
    let on = c.if-not-ranges_inside.false in
    plan_goes a.pointer a.slot a.mem.now c.requires.0
    (λ id t. reconfigures id a.pointer a.slot t a.mem.now c.context_check.ensures c.in_ok-adds.was c.locate.ensures here c.read_u32-drops.ensures c.ranges_inside.ensures on)
    (ranges_space (length a.mem.now) a.pointer _ c.ranges_inside.ensures on c.requires.1) c.requires.1
