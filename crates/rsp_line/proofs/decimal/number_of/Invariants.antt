-- Each digit passed is the last of the number so far.
use Rattle.std.proofs.Common.{◌≡◌, drop}
use Rattle.rsp_line.specs.Decimal.{number_from, number_of}
use Rattle.rsp_line.proofs.decimal.number_of.Given as goal

abbrev pub invariant-loop-c : goal.invariant-loop-c
invariant-loop-c l = number_of l.s ≡ number_from l.v (drop l.c-index l.s)
