-- Step 3's T₁, sum by sum; Ch takes e, f and g in this order.
use Rattle.standard.specs.Hash.{T₁}
use Rattle.compression.proofs.rounds.t1.Goals as goal

pub returns : goal.returns
unfolding T₁
returns c = rw (c.upper_sigma_1.ensures, c.ch.ensures)
