-- Steps 1 to 4, each by its function's promise; the constants are written out on both sides.
use Rattle.std.proofs.Common.{refl, ◌∙◌}
use Rattle.standard.specs.Hash.{compressed}
use Rattle.standard.specs.Sha256.{K256}
use Rattle.compression.proofs.rounds.compress.Goals as goal

pub returns : goal.returns
unfolding compressed K256
returns c = c.sums.ensures ∙ rw (c.all_turns.ensures _ refl c.block_words-w.ensures)
