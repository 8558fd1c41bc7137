-- The test so far, and of what is left, are the test of the whole.
use Rattle.std.proofs.Common.{◌≡◌, ◌&&◌, length}
use Rattle.same.specs.Same.{same}
use Rattle.same.proofs.same.Given as goal

abbrev pub invariant-loop-x : goal.invariant-loop-x
invariant-loop-x l =
    let a = l.x-iterator.a.rest.now in
    let b = l.x-iterator.b.rest.now in
    (length a ≡ length b) × ((l.equal && same a b) ≡ same l.a l.b)
