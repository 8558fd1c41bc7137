-- What is read so far, and the pieces that are left behind it, are the message.
use Rattle.std.proofs.Common.{◌≡◌, List, ℕ, ◌++◌}
use Rattle.std.specs.Slice.Iter.{chunks_rest}
use Rattle.sha256.specs.Fed.{HasRead}
use Rattle.test_files.proofs.hashes.in_pieces.Given as goal

abbrev pub invariant-loop-piece : goal.invariant-loop-piece
invariant-loop-piece l =
    (goal.iterator-loop-piece).can_next l.piece-iterator
    × (goal.iterator-loop-piece).is_finite l.piece-iterator
    × (done : List ℕ) × HasRead done l.h × (done ++ chunks_rest l.piece-iterator ≡ l.s)
