-- Nine groups at most are read in the loop, each at its scale.
use Rattle.book.proofs.Groups.{SoFar}
use Rattle.book.proofs.number.lenient_at.Given as goal

abbrev pub invariant-loop : goal.invariant-loop
invariant-loop l = SoFar l.s l.at l.value l.scale l.place l.counter
