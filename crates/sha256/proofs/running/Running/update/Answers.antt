-- Two readings, one behind the other, are one; nothing is left where the rest is empty.
use Rattle.std.proofs.Common.{◌++◌, [], length, refl, sym, ap, ◌∙◌, subst, append_assoc, append-nil, length-append, arith}
use Rattle.std.proofs.lemmas.Bool.{eqb-true, eqb-false}
use Rattle.std.proofs.lemmas.List.{nil_from_length}
use Rattle.sha256.specs.Fed.{Fed}
use Rattle.sha256.proofs.Feeding.{fed_then, fed-none}
use Rattle.sha256.proofs.running.Running.update.Goals as goal

pub loop-rest-init : goal.loop-rest-init
loop-rest-init c = ([], refl, fed-none c.args.self c.requires.few)

pub overflow_sub-h : goal.overflow_sub-h
overflow_sub-h c = omega (arith, c.loop-rest.invariant.2.few)

pub step-h-requires : goal.step-h-requires
step-h-requires c =
    let i = c.loop-rest.invariant in
    let parts = ap length i.1 in
    let some = eqb-false _ _ (sym c.is_empty.ensures ∙ c.loop-rest-test.true) in
    (omega (arith, i.2.few), omega (arith, i.2.grown, parts, some, length-append i.0 c.loop-rest.rest.now))

pub loop-rest-smaller : goal.loop-rest-smaller
loop-rest-smaller c =
    let some = eqb-false _ _ (sym c.is_empty.ensures ∙ c.loop-rest-test.true) in
    omega (arith, some, c.loop-rest.invariant.2.few)

pub loop-rest-preserved : goal.loop-rest-preserved
loop-rest-preserved c =
    let i = c.loop-rest.invariant in
    let p = c.split_at.result in (
      i.0 ++ p.0.now,
      append_assoc i.0 p.0.now p.1.now ∙ ap (λ r. i.0 ++ r) (sym c.split_at.ensures.by_index.0) ∙ i.1,
      fed_then i.2 c.step-h.ensures,
    )

pub returns : goal.returns
returns c =
    let i = c.loop-rest.invariant in
    let none = nil_from_length c.loop-rest.rest.now (eqb-true _ _ (sym c.is_empty.ensures ∙ c.loop-rest-test.false)) in
    subst (λ x. Fed c.args.self x c.loop-rest.h) (sym (append-nil i.0) ∙ ap (λ r. i.0 ++ r) (sym none) ∙ i.1) i.2
