-- A name, and the value behind it.
use Rattle.std.proofs.Common.{sym, ap, ◌∙◌}
use Rattle.rsp_line.specs.Values.{says_of}
use Rattle.rsp_line.specs.Names.{number_of}
use Rattle.rsp_line.specs.Lines.{on_number, counts}
use Rattle.rsp_line.proofs.Says.{field_number, field_bad, field_count, field_torn, field_whole, field_digits}
use Rattle.rsp_line.proofs.line.field.Goals as goal

pub returns-in_err-value-clause-says : goal.returns-in_err-value-clause-says
returns-in_err-value-clause-says c =
    ap says_of c.from_residual-in_err-value.ensures ∙ sym (field_bad _ c.in_err-value.ensures)

pub returns-in_err-number_of-in-Count-clause-says : goal.returns-in_err-number_of-in-Count-clause-says
returns-in_err-number_of-in-Count-clause-says c =
    let read = field_count _ c.in_ok-value.ensures c.in_ok-n.ensures.is c.in_ok-name.ensures (ap number_of c.in-Count.is) in
    ap says_of c.from_residual-in_err-number_of-in-Count.ensures ∙
    sym (read ∙ ap (λ o. on_number o counts) (sym c.in_err-number_of-in-Count.ensures))

pub returns-in_ok-number_of-in-Count-clause-says : goal.returns-in_ok-number_of-in-Count-clause-says
returns-in_ok-number_of-in-Count-clause-says c =
    let read = field_count _ c.in_ok-value.ensures c.in_ok-n.ensures.is c.in_ok-name.ensures (ap number_of c.in-Count.is) in
    sym (read ∙ ap (λ o. on_number o counts) (sym c.in_ok-number_of-in-Count.ensures))

pub returns-in_default : goal.returns-in_default
returns-in_default c =
    let at = field_number c.in_ok-name.name c.in_default.not-Count in
    let whole = sym c.is_hex.ensures ∙ c.if-is_hex.true in
    record {
      says = sym (field_whole _ c.in_ok-value.ensures c.in_ok-n.ensures.is c.in_ok-name.ensures at.0 at.1 whole);
      digits = field_digits _ c.in_ok-value.ensures c.in_ok-n.ensures.is c.in_ok-name.ensures at.0 at.1 c.requires whole;
    }

pub returns-in_default-2 : goal.returns-in_default-2
returns-in_default-2 c =
    let at = field_number c.in_ok-name.name c.in_default.not-Count in
    let torn = sym c.is_hex.ensures ∙ c.if-is_hex.false in
    record {
      says = sym (field_torn _ c.in_ok-value.ensures c.in_ok-n.ensures.is c.in_ok-name.ensures at.0 at.1 torn);
      digits = tt;
    }
