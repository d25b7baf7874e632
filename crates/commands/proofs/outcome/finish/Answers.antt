-- `commands::outcome::finish` meets its contract. Assumes nothing.
use Rattle.definition.specs.Table.{with_slot}
use Rattle.commands.proofs.OutcomeLaws.{finished}
use Rattle.commands.proofs.outcome.finish.Goals as goal

pub returns : goal.returns
unfolding with_slot
returns c = let a = c.args in
    rw (c.success.ensures, c.store_slot_state.ensures) (finished a.id a.slot a.next a.t a.tally.launched a.tally.terminated a.tally.port a.tally.stored a.mem.now)
