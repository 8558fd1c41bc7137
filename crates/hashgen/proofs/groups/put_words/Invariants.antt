-- Two words a limb, and two behind them.
use Rattle.std.proofs.Common.{◌≡◌, ◌+◌, ◌*◌, ◌++◌, length, take}
use Rattle.standard.specs.Hash.{schedule}
use Rattle.standard.specs.Sha256.{sha256}
use Rattle.hashgen.specs.Turns.{block_of}
use Rattle.hashgen.proofs.groups.put_words.Given as goal

abbrev pub invariant-loop-i : goal.invariant-loop-i
invariant-loop-i l =
    (length l.words ≡ 64) ×
    (take (l.from + 2 * l.i) l.words ≡ take l.from l.initial.words ++ schedule sha256 (block_of l.limb-items) (2 * l.i))
