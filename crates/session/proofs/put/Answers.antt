-- `session::put` meets its contract. Assumes nothing.
use mathlib.Core.Path.{◌∙◌}
use Rattle.session.proofs.RecordLaws.{put_numbers}
use Rattle.session.proofs.put.Goals as goal

pub returns : goal.returns
returns c = put_numbers _ _ _ c.requires (c.copy_from_slice.ensures.after ∙ c.numbers.ensures)
