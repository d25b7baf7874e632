-- `registers::set_limit` meets its contract. Assumes nothing.
use native.Mathlib.Omega.{arith}
use Rattle.definition.specs.Table.{with_registers}
use Rattle.registers.proofs.RegisterLaws.{limit_set, limit_refused}
use Rattle.registers.proofs.set_limit.Goals as goal

pub returns-then-limit-gt16 : goal.returns-then-limit-gt16
returns-then-limit-gt16 c = rw c.refuse.ensures (limit_refused c.args.t c.requires c.args.limit (omega arith))

pub returns : goal.returns
unfolding with_registers
returns c = rw c.answer.ensures (limit_set c.args.t c.requires c.args.limit (omega arith))
