-- After n blocks the words are those after the first n, and what is left is the text behind them.
use Rattle.std.proofs.Common.{◌≡◌, ◌*◌, ◌≤◌, ℕ, length, drop}
use Rattle.std.specs.Slice.Iter.{chunks_exact_rest, chunks_exact_size}
use Rattle.standard.specs.Hash.{absorbed}
use Rattle.standard.specs.Sha256.{sha256}
use Rattle.compression.specs.Values.{eight_of}
use Rattle.bench_bare.proofs.purangsa_bare.Given as goal

abbrev pub invariant-loop-block : goal.invariant-loop-block
invariant-loop-block l =
    (chunks_exact_size l.block-iterator ≡ 64)
    × (n : ℕ) × (64 * n ≤ length l.text)
    × (chunks_exact_rest l.block-iterator ≡ drop (64 * n) l.text)
    × (eight_of l.s ≡ (absorbed sha256 l.text n sha256.initial).value)
