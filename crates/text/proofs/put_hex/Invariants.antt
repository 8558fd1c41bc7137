-- Each byte passed has its two digits behind those of the bytes before it.
use Rattle.std.proofs.Common.{◌≡◌, ◌*◌, take}
use Rattle.text.specs.Digits.{hex}
use Rattle.text.proofs.put_hex.Given as goal

abbrev pub invariant-loop-i : goal.invariant-loop-i
invariant-loop-i l = take (2 * l.i) l.out ≡ hex (take l.i l.s)
