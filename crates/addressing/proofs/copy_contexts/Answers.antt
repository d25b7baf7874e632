-- `addressing::copy_contexts` meets its contract. Assumes nothing.
use native.Mathlib.Omega.{arith}
use Rattle.addressing.proofs.AddressLaws.{copied}
use Rattle.addressing.proofs.copy_contexts.Goals as goal

pub returns : goal.returns
returns c = λ id t.
    copied t id _ _ _ _ (omega (arith, c.requires.0)) c.read_context-context.ensures c.index.ensures c.store_context.ensures c.store_slot_state.ensures c.copy_launch-launched.ensures
