-- `registers::reset_all` meets its contract. Assumes nothing.
use native.Mathlib.Omega.{arith}
use Rattle.walks.proofs.RoomLaws.{formed_all_rooms}
use Rattle.definition.specs.Table.{with_registers}
use Rattle.registers.proofs.RegisterLaws.{all_reset}
use Rattle.registers.proofs.reset_all.Goals as goal

pub free_all-freed-requires : goal.free_all-freed-requires
free_all-freed-requires c = λ id low high i one top on. omega (arith, c.requires.1, formed_all_rooms c.args.t c.requires.0 id low high i one top on)

pub returns : goal.returns
unfolding with_registers
returns c = rw c.answer.ensures (all_reset c.args.t c.requires.0 c.requires.1 c.free_all-freed.ensures)
