-- `differential::play` meets its contract. Assumes nothing.
use Rattle.session.proofs.CountLaws.{answers_fit}
use Rattle.differential.proofs.play.Goals as goal

pub show-requires-clause-answered : goal.show-requires-clause-answered
show-requires-clause-answered g c = answers_fit c.in-Ok.ensures
