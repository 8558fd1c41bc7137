-- No byte is read, no block absorbed: all by computing.
use Rattle.std.proofs.Common.{refl, lit<}
use Rattle.standard.specs.Hash.{absorbed}
use Rattle.sha256.proofs.running.Running.new.Goals as goal

pub returns : goal.returns
unfolding absorbed
returns c = record { length_is = refl; words_are = c.initial.ensures; few = lit< tt; rest_waits = refl }
