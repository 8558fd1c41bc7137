-- One turn: the new a and e, and the others moved on.
use Rattle.standard.specs.Hash.{turn}
use Rattle.compression.proofs.rounds.turned.Goals as goal

pub returns : goal.returns
unfolding turn
returns c = rw (c.t2.ensures, c.t1-t.ensures)
