-- After n groups the sum is that of the first 4 * n blocks, and what is left is the text behind them.
use Rattle.std.proofs.Common.{◌≡◌, ◌*◌, ◌≤◌, ℕ, length, drop}
use Rattle.std.specs.Slice.Iter.{chunks_exact_rest, chunks_exact_size}
use Rattle.bench_lanes.specs.Words.{first_words}
use Rattle.bench_lanes.proofs.purangsa_lanes.Given as goal

abbrev pub invariant-loop-group : goal.invariant-loop-group
invariant-loop-group l =
    (length l.words ≡ 64)
    × (chunks_exact_size l.group-iterator ≡ 256)
    × (n : ℕ) × (256 * n ≤ length l.text)
    × (chunks_exact_rest l.group-iterator ≡ drop (256 * n) l.text)
    × (l.sum ≡ first_words l.text (4 * n))
