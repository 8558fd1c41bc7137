-- After i turns the first i limbs stand before what the block held.
use Rattle.std.proofs.Common.{◌≡◌, ◌*◌, ◌++◌, take, drop}
use Rattle.sums.specs.Limbs.{string_of}
use Rattle.sums.proofs.put_limbs.Given as goal

abbrev pub invariant-loop-i : goal.invariant-loop-i
invariant-loop-i l = l.block ≡ string_of (take l.i l.limb-items) ++ drop (8 * l.i) l.initial.block
