-- No reason has the number 0. Assumes nothing.
use mathlib.Core.Path.{◌≡◌}
use native.Mathlib.Omega.{arith}
use Rattle.reasons.specs.declared.Reason.{Reason}
use Rattle.reasons.specs.Numbers.{number_of}

pub number-some : (reason : Reason) → number_of reason ≡ 0 → ⊥
number-some reason h = grind arith
