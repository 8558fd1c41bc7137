-- Each way that a line leads by itself.
use Rattle.std.proofs.Common.{take, sym, ap, ◌∙◌, arith, inl, inr}
use Rattle.rsp_case.specs.Cases.{case_of}
use Rattle.rsp_run.specs.Run.{passes}
use Rattle.rsp_case.specs.Values.{next_of}
use Rattle.responses.proofs.Telling.{tells_goes, tells_keeps, tells_passed_over, tells_unread, tells_whole}
use Rattle.responses.proofs.Reader.report_line.Goals as goal

pub returns-in-Goes-clause-tells : goal.returns-in-Goes-clause-tells
returns-in-Goes-clause-tells c =
    let took = c.take_line-took.ensures in
    let at = c.behind-self-in-Goes.ensures in
    let point = ap (λ p. p.point) at in
    let used = ap (λ p. p.used) at in
    elim c.in-Goes.is [
      | inl is ↦ tells_goes c.args.self.now _ _ (omega arith) _ _ _ _ 0 point used (sym (ap next_of is) ∙ took.leads) (rw is at took.kept)
      | inr is ↦ tells_keeps c.args.self.now _ _ (omega arith) _ _ _ _ 0 point used (sym (ap next_of is) ∙ took.leads) (rw is at took.kept)
    ]

pub returns-in-Whole-clause-tells : goal.returns-in-Whole-clause-tells
returns-in-Whole-clause-tells c =
    let took = c.take_line-took.ensures in
    let at = c.behind-self.ensures in
    tells_whole c.args.self.now _ _ (omega arith) _ _ _ _ _ (ap (λ p. p.point) at) (ap (λ p. p.used) at) _ _
    (sym (ap next_of c.in-Whole.is) ∙ took.leads) (rw c.in-Whole.is at took.kept)
    (λ number fields are.
    c.passes-good.ensures number fields (c.split_at.ensures.front ∙ are) ∙
    ap
    (λ l. passes c.args.self.now.mechanism c.in-Whole.point.heads.fresh (case_of number fields (take c.in-Whole.returned l)))
    c.split_at.ensures.back)
    c.passed.ensures.wrote

pub returns-in-PassedOver-clause-tells : goal.returns-in-PassedOver-clause-tells
returns-in-PassedOver-clause-tells c =
    let took = c.take_line-took.ensures in
    let at = c.behind-self-in-PassedOver.ensures in
    tells_passed_over c.args.self.now _ _ (omega arith) _ _ _ _ 0 (ap (λ p. p.point) at) (ap (λ p. p.used) at) _
    (sym (ap next_of c.in-PassedOver.is) ∙ took.leads) (rw c.in-PassedOver.is at took.kept) c.passed_over.ensures.wrote

pub returns-in-Unread-clause-tells : goal.returns-in-Unread-clause-tells
returns-in-Unread-clause-tells c =
    tells_unread c.args.self.now _ _ (omega arith) _ _ _ (sym (ap next_of c.in-Unread.is) ∙ c.take_line-took.ensures.leads)
    c.unread.ensures.wrote
