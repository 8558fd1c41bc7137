-- A test of each character.
use Rattle.std.proofs.Common.{◌≡◌, true, ltb, ◌&&◌, fold, rules, tests, ◌∙◌}
use Rattle.std.proofs.lemmas.Iterator.{YieldsList-from_slice}
use Rattle.std.proofs.lemmas.Iterator.Consumers.{fold_from_yields_List}
use borrow.Author.Tests.{eq-eqb, ne_eqb}
use Rattle.rsp_line.specs.Hex.{is_hex, digit_of}
use Rattle.rsp_line.proofs.Digits.{all_digits-fold}
use Rattle.rsp_line.proofs.hex.is_hex.Goals as goal

pub returns-then-s-eq0 : goal.returns-then-s-eq0
unfolding is_hex
returns-then-s-eq0 c =
    let s = c.args.s.now in
    let all : c.fold.result ≡ fold (λ b x. b && ltb (digit_of x) 16) true s =
    fold_from_yields_List _ (λ b x. b && ltb (digit_of x) 16) true c.fold.result c.fold.ensures.ran (YieldsList-from_slice s cc)
    (λ a x b q k. search (rules, tests))
    in
    all ∙ rw (eq-eqb _ 0 c.if-s-eq0.true) (all_digits-fold true s)

pub returns-else-s-eq0 : goal.returns-else-s-eq0
unfolding is_hex
returns-else-s-eq0 c = rw (ne_eqb _ 0 c.if-s-eq0.false)
