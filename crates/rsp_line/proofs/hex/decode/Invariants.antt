-- Each pair passed has its byte behind those of the pairs before it.
use Rattle.std.proofs.Common.{◌≡◌, length}
use Rattle.rsp_line.proofs.Digits.{Decoded}
use Rattle.rsp_line.proofs.hex.decode.Given as goal

abbrev pub invariant-loop-i : goal.invariant-loop-i
invariant-loop-i l = record { size : length l.out ≡ length l.fn.out; bytes : Decoded l.s l.i l.fn.out l.at l.out }
