-- A hash where there is no sign, else a name and its value.
use Rattle.std.proofs.Common.{◌<◌, length, take, sym, ap, ◌∙◌, arith}
use Rattle.rsp_line.specs.Lines.{name_end, heading_says}
use Rattle.rsp_line.specs.Values.{heading_said}
use Rattle.rsp_line.proofs.Says.{in_sign}
use Rattle.rsp_line.proofs.line.heading_in.Goals as goal

pub returns-in_err-value_behind : goal.returns-in_err-value_behind
returns-in_err-value_behind c =
    let sign : name_end c.args.s.now < length c.args.s.now = omega (arith, c.in-Some.ensures.is, c.in-Some.ensures.within) in
    ap heading_said c.from_residual.ensures ∙ sym (in_sign _ sign ∙ c.in_err-value_behind.ensures heading_says)

pub returns : goal.returns
returns c =
    let s = c.args.s.now in
    let sign : name_end s < length s = omega (arith, c.in-Some.ensures.is, c.in-Some.ensures.within) in
    let value = c.in_ok-value_behind.field-0.now in
    c.heading_value.ensures ∙ ap (λ n. heading_says (take n s) value) c.in-Some.ensures.is ∙
    sym (in_sign s sign ∙ c.in_ok-value_behind.ensures.then heading_says)
