-- A heading and COUNT leave the store as it was.
use Rattle.std.proofs.Common.{◌/◌, length, sym, ap, ◌∙◌}
use Rattle.rsp_line.specs.Names.{number_of}
use Rattle.rsp_line.specs.Values.{says_of}
use Rattle.rsp_line.proofs.Digits.{length-bytes}
use Rattle.std.specs.Prelude.{Some}
use Rattle.rsp_case.specs.Points.{given}
use Rattle.rsp_case.specs.Reading.{next}
use Rattle.rsp_case.specs.Values.{next_of}
use Rattle.rsp_case.proofs.Kept.{kept_as, headed_still, counted_still}
use Rattle.rsp_case.proofs.store.take_line.Goals as goal

pub returns-in-Heading-clause-kept : goal.returns-in-Heading-clause-kept
returns-in-Heading-clause-kept c =
    kept_as _ c.args.store.now c.args.used _ _ _ (sym c.headed.ensures)
    (headed_still _ c.args.store.now c.args.used _ c.args.p c.told.result)

pub returns-in-Count-clause-kept : goal.returns-in-Count-clause-kept
returns-in-Count-clause-kept c =
    kept_as _ c.args.store.now c.args.used _ _ _ (sym c.counted.ensures)
    (counted_still _ c.args.store.now c.args.used _ c.args.p c.in-Count.number)

pub returns-in-Field-clause-leads : goal.returns-in-Field-clause-leads
returns-in-Field-clause-leads c =
    let p = c.args.p in
    let used = c.args.used in
    ap next_of c.take_field.ensures.same ∙ c.given-next.ensures.is ∙
    ap (λ name. given p used name (length c.in-Field.digits.now / 2)) (c.from.ensures ∙ c.number.ensures) ∙
    ap (given p used (number_of c.in-Field.name)) (sym (length-bytes c.in-Field.digits.now)) ∙
    ap (λ said. next p used (says_of (Some said))) (sym c.in-Field.is) ∙
    ap (next p used) c.in-Some.ensures.says
