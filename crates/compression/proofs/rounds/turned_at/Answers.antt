-- Turn t, with the constant and the word from their places.
use Rattle.standard.proofs.Ring.{turned_once}
use Rattle.compression.proofs.rounds.turned_at.Goals as goal

pub returns : goal.returns
returns c = turned_once c.turned.ensures
