-- `registers::set_dcbaap` meets its contract. Assumes nothing.
use Rattle.definition.specs.Table.{with_registers}
use Rattle.registers.proofs.RegisterLaws.{dcbaap_set}
use Rattle.registers.proofs.set_dcbaap.Goals as goal

pub returns : goal.returns
unfolding with_registers
returns c = rw c.answer.ensures (dcbaap_set c.args.t c.requires c.args.dcbaap)
