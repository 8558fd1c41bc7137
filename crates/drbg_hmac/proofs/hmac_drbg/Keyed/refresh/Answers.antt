-- Nothing is done without additional input, and an update with it.
use Rattle.std.proofs.Common.{◌<◌, length, sym, ap, ◌∙◌, arith}
use Rattle.std.proofs.lemmas.Bool.{eqb-true, eqb-false}
use Rattle.standard.specs.HmacDrbg.{update}
use Rattle.standard.specs.Sha256.{sha256}
use Rattle.standard.proofs.Strings.{if_null-nil, if_null-some}
use Rattle.drbg_hmac.specs.Keys.{held}
use Rattle.std.proofs.lemmas.List.{nil_from_length}
use Rattle.drbg_hmac.proofs.hmac_drbg.Keyed.refresh.Goals as goal

pub returns-then-is_empty : goal.returns-then-is_empty
returns-then-is_empty c =
    let none = eqb-true _ 0 (sym c.is_empty.ensures ∙ c.if-is_empty.true) in
    sym (rw (nil_from_length c.args.additional.now none, if_null-nil))

pub returns : goal.returns
returns c =
    let d = c.args.additional.now in
    let none = eqb-false (length d) 0 (sym c.is_empty.ensures ∙ c.if-is_empty.false) in
    let some : 0 < length d = omega (arith, none) in
    c.update.ensures ∙ ap (λ s. update sha256 s (held c.args.self.now)) c.one.ensures.is ∙ sym (if_null-some d _ _ some)
