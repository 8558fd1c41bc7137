-- Each digit passed is the last of the number so far.
use Rattle.std.proofs.Common.{◌≤◌, ◌+◌, ◌*◌, ◌^◌, ◌≡◌, sym, ap, ◌∙◌, arith, drop}
use borrow.Author.Tests.{eqb-true, eqb-false}
use Rattle.std.specs.Char.{digit_value}
use Rattle.rsp_line.specs.Decimal.{number_from}
use Rattle.rsp_line.proofs.Numbers.{number_starts, number_empty, no-digit, digit_fits, digit_over, number-ends}
use Rattle.rsp_line.proofs.decimal.number_of.Goals as goal

pub returns-then-is_empty : goal.returns-then-is_empty
returns-then-is_empty c = sym (number_empty _ (eqb-true _ _ (sym c.is_empty.ensures ∙ c.if-is_empty.true)))

pub loop-c-init : goal.loop-c-init
loop-c-init c =
    let some = eqb-false _ _ (sym c.is_empty.ensures ∙ c.if-is_empty.false) in
    number_starts _ (omega (arith, some))

pub returns-in_err-digit : goal.returns-in_err-digit
returns-in_err-digit c =
    let none : 10 ≤ digit_value c.from.result = omega (arith, c.in_err-digit.ensures.value) in
    c.from_residual.ensures ∙
    sym (c.loop-c.invariant ∙ no-digit c.args.s.now _ c.loop-c.c-index _ c.loop-c-test.true (sym c.from.ensures) none)

pub returns-in_err-checked_mul : goal.returns-in_err-checked_mul
returns-in_err-checked_mul c =
    let over : 2 ^ 64 ≤ 10 * c.loop-c.v + c.in_ok-digit.digit = omega (arith, c.in_err-checked_mul.ensures) in
    c.from_residual-in_err-checked_mul.ensures ∙
    sym
    (c.loop-c.invariant ∙
    digit_over c.args.s.now _ c.loop-c.c-index _ c.loop-c-test.true (sym c.from.ensures) _ c.in_ok-digit.ensures.value over)

pub returns-in_err-v : goal.returns-in_err-v
returns-in_err-v c =
    let over : 2 ^ 64 ≤ 10 * c.loop-c.v + c.in_ok-digit.digit =
    omega (arith, c.in_err-v.ensures, c.in_ok-checked_mul.ensures, c.from-in-loop-c.ensures)
    in
    c.from_residual-in_err-v.ensures ∙
    sym
    (c.loop-c.invariant ∙
    digit_over c.args.s.now _ c.loop-c.c-index _ c.loop-c-test.true (sym c.from.ensures) _ c.in_ok-digit.ensures.value over)

pub loop-c-preserved : goal.loop-c-preserved
loop-c-preserved c =
    let s = c.args.s.now in
    let i = c.loop-c.c-index in
    let sum : 10 * c.loop-c.v + c.in_ok-digit.digit ≡ c.in_ok-v.v =
    omega (arith, c.in_ok-v.ensures, c.in_ok-checked_mul.ensures, c.from-in-loop-c.ensures)
    in
    c.loop-c.invariant ∙
    digit_fits s _ i _ c.loop-c-test.true (sym c.from.ensures) _ c.in_ok-digit.ensures.value (omega (arith, sum, c.in_ok-v.ensures)) ∙
    ap (λ v. number_from v (drop (i + 1) s)) sum

pub returns : goal.returns
returns c = sym (c.loop-c.invariant ∙ number-ends _ _ c.loop-c.c-index c.loop-c-test.false)
