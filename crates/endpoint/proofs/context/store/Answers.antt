-- `endpoint::context::store` meets its contract. Assumes nothing.
use mathlib.Core.Path.{◌∙◌}
use Prim.Native.Nat.{◌+◌}
use Rattle.endpoint.proofs.StepLaws.{byte_yes, byte_no, word_yes, word_no, both_stores}
use Rattle.endpoint.proofs.context.store.Goals as goal
use Rattle.endpoint.proofs.context.store.Goals.{in-Some, in_default}

pub returns-then-row : goal.returns-then-row
returns-then-row c = let a = c.args in
    both_stores a.row a.e a.at
    (elim c.match-row.branch [
      | in-Some w ↦ byte_yes a.at w.in-Some.is (w.mem-is ∙ w.store_state.ensures) w.stored-is
      | in_default w ↦ byte_no a.at w.in_default.is w.mem-is w.stored-is
    ])
    (word_yes (a.at + 8) c.if-row.true c.word_of.ensures c.store_pointer.ensures)

pub returns-else-row : goal.returns-else-row
returns-else-row c = let a = c.args in
    both_stores a.row a.e a.at
    (elim c.match-row.branch [
      | in-Some w ↦ byte_yes a.at w.in-Some.is (w.mem-is ∙ w.store_state.ensures) w.stored-is
      | in_default w ↦ byte_no a.at w.in_default.is w.mem-is w.stored-is
    ])
    (word_no (a.at + 8) _ c.if-row.false)
