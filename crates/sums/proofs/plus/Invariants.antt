-- The limbs from i on are done at each i, and a carry is left for those before.
use Rattle.std.proofs.Common.{◌≡◌, ◌+◌, ◌*◌, ◌++◌, length, take, drop}
use Rattle.standard.specs.Strings.{number_of, bytes_of}
use Rattle.sums.specs.Limbs.{string_of}
use Rattle.sums.proofs.plus.Given as goal

abbrev pub invariant-loop-i : goal.invariant-loop-i
invariant-loop-i l =
    (length l.sum ≡ 7) ×
    (bytes_of 56 (number_of (string_of l.a) + number_of (string_of l.b))
    ≡ bytes_of (8 * l.i) (number_of (string_of (take l.i l.a)) + number_of (string_of (take l.i l.b)) + l.carry) ++ string_of
    (drop l.i l.sum))
