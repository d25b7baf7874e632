-- `scan::records::faults_of` meets its contract. Assumes nothing.
use mathlib.Core.Path.{◌≡◌, sym, ◌∙◌}
use mathlib.Core.Bool.{true, false}
use Prim.Native.Nat.{◌*◌}
use Rattle.guest.specs.Bytes.{◌⊕◌, inside}
use Rattle.definition.specs.Table.{is_disabled, endpoint_ok}
use Rattle.scan.proofs.records.faults_of.Goals as goal

pub returns-then-is_disabled : goal.returns-then-is_disabled
unfolding endpoint_ok
returns-then-is_disabled c =
    let off : is_disabled c.args.e ≡ true = sym c.is_disabled.ensures ∙ c.if-is_disabled.true in simp off c.nonzero.ensures

pub returns-then-inside : goal.returns-then-inside
unfolding endpoint_ok
returns-then-inside c = let a = c.args in
    let on : is_disabled a.e ≡ false = sym c.is_disabled.ensures ∙ c.if-is_disabled.false in
    let here : inside a.length (a.base ⊕ 32 * a.i) 32 ≡ true = rw (← c.plus.ensures) (sym c.inside.ensures ∙ c.if-inside.true) in
    simp (on, here)

pub returns : goal.returns
unfolding endpoint_ok
returns c = let a = c.args in
    let on : is_disabled a.e ≡ false = sym c.is_disabled.ensures ∙ c.if-is_disabled.false in
    let out : inside a.length (a.base ⊕ 32 * a.i) 32 ≡ false = rw (← c.plus.ensures) (sym c.inside.ensures ∙ c.if-inside.false) in
    simp (on, out)
