-- After l lanes the first l turns' blocks are laid, and the data is that of the turn behind them.
use Rattle.std.proofs.Common.{◌≡◌, ℕ, ◌+◌, ◌<◌, List, length}
use Rattle.standard.specs.Hash.{schedule}
use Rattle.standard.specs.Sha256.{sha256}
use Rattle.lanes.specs.Lanes.{lane_of}
use Rattle.hashgen.specs.Turns.{turn_block, Ready}
use Rattle.hashgen.proofs.groups.put_blocks.Given as goal

abbrev pub invariant-loop-l : goal.invariant-loop-l
invariant-loop-l l =
    (length l.words ≡ 64) × (length l.next ≡ 7) ×
    ((v : List ℕ) (n : ℕ) → Ready v n l.initial.next →
    ((j : ℕ) → j < l.l → lane_of l.words j ≡ schedule sha256 (turn_block v (n + j)) 16) × Ready v (n + l.l) l.next)
