-- Each call's promise is a step of the case, and the comparison its end.
use Rattle.std.proofs.Common.{◌≡◌, Bool, Result, Ok, Err, refl, ◌∙◌, eqb, arith}
use Rattle.std.specs.Result.{result_eq}
use Rattle.reasons.specs.declared.Reason.{Reason}
use Rattle.reasons.specs.declared.Reason.TheVariants.{NoSuchGenerator}
use Rattle.reasons.specs.Numbers.{number_of}
use Rattle.reasons.specs.contracts.ReasonPartialEq.TheImpl as by-derive
use Rattle.table.specs.declared.answers.Served.{Served}
use Rattle.table.specs.OnBytes.{told_of}
use Rattle.self_test.specs.Cases.{refused}
use Rattle.self_test.proofs.Holding.{none, more, refuses_it}
use Rattle.self_test.proofs.cases.refused.Goals as goal

reason_told : (reason : Reason) → by-derive.eq-value.it reason NoSuchGenerator ≡ eqb (number_of reason) 2
reason_told reason = grind arith

refused_told : (equal : Served → Served → Bool) (r : Result Served Reason)
    → result_eq equal by-derive.eq-value.it r (Err NoSuchGenerator) ≡ eqb (told_of r).number 2
refused_told equal (Ok served) = refl
refused_told equal (Err reason) = reason_told reason

pub returns : goal.returns
unfolding refused
returns c =
    refuses_it _ (more c.open-drawn.ensures none) c.draw-drawn.ensures 2 (c.eq.ensures ∙ refused_told _ c.draw-drawn.result)
    c.same.ensures c.same-2.ensures
