-- After l lanes the first l blocks are laid.
use Rattle.std.proofs.Common.{◌≡◌, ℕ, ◌<◌, length}
use Rattle.standard.specs.Hash.{schedule, block_at}
use Rattle.standard.specs.Sha256.{sha256}
use Rattle.lanes.specs.Lanes.{lane_of}
use Rattle.bench_lanes.proofs.put_group.Given as goal

abbrev pub invariant-loop-l : goal.invariant-loop-l
invariant-loop-l l =
    (length l.words ≡ 64) ×
    ((j : ℕ) → j < l.l → lane_of l.words j ≡ schedule sha256 (block_at sha256 l.group j) 16)
