-- `addressing::second_address` meets its contract. Assumes nothing.
use mathlib.Core.Path.{◌≡◌, sym, ◌∙◌}
use native.Mathlib.Omega.{arith}
use lib.ListN.{length}
use Rattle.std.specs.Prelude.{Some, None}
use Rattle.std.proofs.lemmas.Result.{err_from_is_err_and}
use Rattle.definition.specs.declared.Refusal.TheVariants.{Outside}
use Rattle.guest.proofs.RunLaws.{located_fits}
use Rattle.addressing.proofs.AddressLaws.{again_no_input, again_goes}
use Rattle.addressing.proofs.second_address.Goals as goal

pub returns-in_err-from : goal.returns-in_err-from
returns-in_err-from c =
    let p = err_from_is_err_and c.from_residual.result c.from_residual.ensures.1 in
    let out : c.locate.result ≡ None = grind arith in
    let of : c.in_err-from.field-0.0 ≡ Outside = grind arith in
    rw (p.1, p.2, of) (λ id t q. again_no_input _ t id _ _ _ c.plus-input.ensures c.locate.ensures out)

pub copy_contexts-requires : goal.copy_contexts-requires
copy_contexts-requires c = let n = c.end_one-ended.auto.mem in
    let here : c.locate.result ≡ Some c.in_ok-from.from = grind arith in (
      omega (arith, n, located_fits (length c.args.mem.now) c.plus-input.result 64 (sym c.locate.ensures ∙ here)),
      omega (arith, n, c.requires.0),
      omega (arith, c.end_one-ended.ensures.few),
    )

pub returns : goal.returns
returns c =
    let here : c.locate.result ≡ Some c.in_ok-from.from = grind arith in
    λ id t.
    again_goes _ t id _ _ _ c.plus-input.ensures c.locate.ensures c.copy_contexts.result here c.requires.0 c.requires.1 c.end_one-ended.ensures c.copy_contexts.ensures
