-- Step 3's T₂.
use Rattle.standard.specs.Hash.{T₂}
use Rattle.compression.proofs.rounds.t2.Goals as goal

pub returns : goal.returns
unfolding T₂
returns c = rw (c.maj.ensures, c.upper_sigma_0.ensures)
