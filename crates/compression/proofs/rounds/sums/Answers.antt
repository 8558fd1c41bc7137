-- Step 4, word by word.
use Rattle.std.proofs.Common.{refl}
use Rattle.standard.specs.Hash.{added}
use Rattle.compression.proofs.rounds.sums.Goals as goal

pub returns : goal.returns
unfolding added
returns c = refl
