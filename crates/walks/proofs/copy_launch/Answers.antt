-- `walks::copy_launch` meets its contract. Assumes nothing.
use mathlib.Core.Path.{◌∙◌}
use native.Mathlib.Omega.{arith}
use Rattle.walks.proofs.LaunchLaws.{copied}
use Rattle.walks.proofs.copy_launch.Goals as goal

pub returns : goal.returns
returns c = record {
  ends =
      copied c.args.base c.args.from c.args.i c.requires.space.input c.context_at-at.ensures c.read_context-context.ensures c.store_context.ensures c.index.ensures
      (c.from.ensures ∙ c.read_byte-port.ensures) c.launch-endpoint.ensures;
  byte = omega arith;
}
