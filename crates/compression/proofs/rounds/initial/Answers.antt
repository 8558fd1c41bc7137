-- The eight words are written out on both sides.
use Rattle.std.proofs.Common.{refl}
use Rattle.standard.specs.Sha256.{initial256}
use Rattle.compression.proofs.rounds.initial.Goals as goal

pub returns : goal.returns
unfolding initial256
returns c = refl
