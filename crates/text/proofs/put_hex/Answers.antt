-- A byte's two digits go behind those of the bytes before it.
use Rattle.std.proofs.Common.{◌≡◌, ◌+◌, ◌*◌, [], ◌∷◌, ◌++◌, length, take, get_or, refl, sym, ap, ap₂, ◌∙◌, take_all, arith}
use Rattle.text.specs.Digits.{hex}
use Rattle.text.proofs.Digits.{two-put, hex-more}
use Rattle.text.proofs.put_hex.Goals as goal

pub loop-i-preserved : goal.loop-i-preserved
loop-i-preserved c =
    let i = c.loop-i.i in
    let s = c.args.s.now in
    let out = c.loop-i.out in
    let two : 2 * (i + 1) ≡ 2 * i + 2 = omega arith in
    rw (two, two-put out (2 * i) c.digit_of.result c.digit_of-in-loop-i.result (omega arith), c.loop-i.invariant)
    (ap₂ (λ a b. hex (take i s) ++ ((a ∷ []) ++ (b ∷ []))) c.digit_of.ensures c.digit_of-in-loop-i.ensures ∙
    sym (hex-more s i (get_or s i 0) c.loop-i-test.true refl))

pub returns : goal.returns
returns c =
    let all : c.loop-i.i ≡ length c.args.s.now = omega arith in
    sym (take_all (2 * c.loop-i.i) c.loop-i.out (omega arith)) ∙
    c.loop-i.invariant ∙
    ap hex (take_all c.loop-i.i c.args.s.now (omega arith))
