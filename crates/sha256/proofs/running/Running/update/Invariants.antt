-- What is read so far, and the rest, are all of s.
use Rattle.std.proofs.Common.{◌≡◌, ◌++◌, length, List, ℕ}
use Rattle.sha256.specs.Fed.{Fed}
use Rattle.sha256.proofs.running.Running.update.Given as goal

abbrev pub invariant-loop-rest : goal.invariant-loop-rest
invariant-loop-rest l = (x : List ℕ) × (x ++ l.rest ≡ l.s) × Fed l.initial.h x l.h

abbrev pub decreases-loop-rest : goal.decreases-loop-rest
decreases-loop-rest l = length l.rest
