-- `addressing::first_address` meets its contract. Assumes nothing.
use mathlib.Core.Path.{◌≡◌, sym, ◌∙◌}
use native.Mathlib.Omega.{arith}
use lib.ListN.{length}
use Rattle.std.specs.Prelude.{Some, None}
use Rattle.std.proofs.lemmas.Result.{err_from_is_err_and}
use Rattle.definition.specs.declared.Refusal.TheVariants.{Outside}
use Rattle.guest.proofs.RunLaws.{located_fits}
use Rattle.addressing.proofs.AddressLaws.{lies, fresh_no_entry, fresh_no_input, fresh_no_device, fresh_goes}
use Rattle.addressing.proofs.first_address.Goals as goal

pub returns-in_err-at : goal.returns-in_err-at
returns-in_err-at c =
    let p = err_from_is_err_and c.from_residual.result c.from_residual.ensures.1 in
    let out : c.locate.result ≡ None = grind arith in
    let of : c.in_err-at.field-0.0 ≡ Outside = grind arith in
    rw (p.1, p.2, of) (λ id t q. fresh_no_entry _ t id _ _ _ c.locate.ensures out)

pub read_u64-base-requires : goal.read_u64-base-requires
read_u64-base-requires c = let a = c.args in
    let entry : c.locate.result ≡ Some c.in_ok-at.at = grind arith in
    located_fits (length a.mem.now) a.slot.entry 8 (sym c.locate.ensures ∙ entry)

pub returns-in_err-from : goal.returns-in_err-from
returns-in_err-from c =
    let p = err_from_is_err_and c.from_residual-in_err-from.result c.from_residual-in_err-from.ensures.1 in
    let entry : c.locate.result ≡ Some c.in_ok-at.at = grind arith in
    let out : c.locate-2.result ≡ None = grind arith in
    let of : c.in_err-from.field-0.0 ≡ Outside = grind arith in
    rw (p.1, p.2, of)
    (λ id t q. fresh_no_input _ t id _ _ _ c.locate.ensures entry c.read_u64-base.ensures c.plus-input.ensures c.locate-2.ensures out)

pub returns-in_err-ok_or : goal.returns-in_err-ok_or
returns-in_err-ok_or c =
    let p = err_from_is_err_and c.from_residual-in_err-ok_or.result c.from_residual-in_err-ok_or.ensures.1 in
    let entry : c.locate.result ≡ Some c.in_ok-at.at = grind arith in
    let input : c.locate-2.result ≡ Some c.in_ok-from.from = grind arith in
    let out : c.locate-3.result ≡ None = grind arith in
    let of : c.in_err-ok_or.field-0.0 ≡ Outside = grind arith in
    rw (p.1, p.2, of)
    (λ id t q. fresh_no_device _ t id _ _ _ c.locate.ensures entry c.read_u64-base.ensures c.plus-input.ensures c.locate-2.ensures input c.locate-3.ensures out)

pub copy_contexts-requires : goal.copy_contexts-requires
copy_contexts-requires c = let len = length c.args.mem.now in
    let input : c.locate-2.result ≡ Some c.in_ok-from.from = grind arith in
    let device : c.locate-3.result ≡ Some c.in_ok-ok_or.field-0 = grind arith in (
      located_fits len c.plus-input.result 64 (sym c.locate-2.ensures ∙ input),
      lies len c.read_u64-base.result 64 c.locate-3.ensures device,
      omega arith,
    )

pub returns : goal.returns
returns c =
    let entry : c.locate.result ≡ Some c.in_ok-at.at = grind arith in
    let input : c.locate-2.result ≡ Some c.in_ok-from.from = grind arith in
    let device : c.locate-3.result ≡ Some c.in_ok-ok_or.field-0 = grind arith in
    λ id t q.
    fresh_goes _ t id _ _ _ c.locate.ensures entry c.read_u64-base.ensures c.plus-input.ensures c.locate-2.ensures input c.locate-3.ensures device (c.copy_contexts.ensures id t)
