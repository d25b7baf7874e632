-- `commands::device::deconfigure` meets its contract. Assumes nothing.
use Rattle.commands.proofs.OutcomeLaws.{deconfigured}
use Rattle.commands.proofs.device.deconfigure.Goals as goal

pub returns : goal.returns
returns c = let a = c.args in
    deconfigured a.id a.slot a.next a.t c.terminate_from-ended.ensures c.finish.ensures
