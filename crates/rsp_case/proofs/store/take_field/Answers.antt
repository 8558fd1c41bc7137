-- What was returned stands behind the fields, and a line holds at most 2,047 bytes of it.
use Rattle.std.proofs.Common.{◌≡◌, ◌+◌, refl, subst, arith}
use Rattle.text.specs.Writing.{Appends}
use Rattle.rsp_line.specs.Hex.{bytes_of}
use Rattle.rsp_line.proofs.Digits.{length-bytes}
use Rattle.rsp_case.proofs.Kept.{value-short}
use Rattle.rsp_case.proofs.store.take_field.Goals as goal

pub returns-in-Whole-clause-kept : goal.returns-in-Whole-clause-kept
returns-in-Whole-clause-kept c =
    let a = c.args in
    let digits = a.digits.now in
    let returned = rw c.in-Whole.is at c.requires.returns in
    let stop : c.decode.result ≡ a.used + c.in-Whole.field-1 =
    omega (arith, returned, c.decode.ensures.ends, length-bytes digits)
    in
    rw c.in-Whole.is (
      refl,
      subst (λ stop. Appends a.store.now a.used (bytes_of digits) stop c.decode.new.out) stop c.decode.ensures,
      value-short digits c.requires.digits_value.1,
    )
