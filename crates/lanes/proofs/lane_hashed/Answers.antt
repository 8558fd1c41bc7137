-- Steps 1 to 4 from the initial hash value; the constants are written out on both sides.
use Rattle.std.proofs.Common.{refl, ◌∙◌}
use Rattle.standard.specs.Hash.{compressed}
use Rattle.standard.specs.Sha256.{K256}
use Rattle.lanes.proofs.lane_hashed.Goals as goal

pub returns : goal.returns
unfolding compressed K256
returns c = λ block is. c.sums.ensures ∙ rw (c.all_turns.ensures block refl is, c.initial-s.ensures)
