-- `trace::record::decode` meets its contract. Assumes nothing.
use Rattle.std.proofs.Common.{◌≡◌, sym, subst, ap, ◌∙◌, Result, Ok, Err}
use Rattle.std.specs.Prelude.{MatchResult}
use Rattle.trace.specs.Records.{fields_of}
use Rattle.trace.proofs.RecordLaws.{kind_unknown}
use Rattle.trace.proofs.record.decode.Goals as goal

-- what was promised of a value holds of it once the error beside it is another
value : {A E : Type 0} (F : Type 0) (R : A → Type 0) (Q : E → Type 0) (r : Result A E) {x : A}
    → MatchResult r R Q → MatchResult r (λ y. ◌≡◌ {A = Result A F} (Ok x) (Ok y)) (λ _. ⊥) → R x
value F R Q (Ok y) {x} h e = let q : x ≡ y = cc in subst R (sym q) h
value F R Q (Err y) h e = absurd e

pub returns-in_err-kind : goal.returns-in_err-kind
returns-in_err-kind c =
    let whole = value _ _ _ c.try_from.result c.try_from.ensures.1 c.in_ok-record.ensures.cases in
    kind_unknown _ _ (c.read-fields.ensures ∙ ap fields_of whole.same) c.in_err-kind.ensures c.from_residual-in_err-kind.ensures.0
