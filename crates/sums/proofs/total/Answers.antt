-- Three sums, one after the other: each limb sum is modulo 2^448, and cutting the last byte leaves the sum modulo 2^440.
use Rattle.std.proofs.Common.{◌≡◌, ℕ, ◌+◌, ◌*◌, ap, ◌∙◌, ap₂, mod-eq_of_lt, arith}
use Rattle.standard.specs.Strings.{number_of, bytes_of}
use Rattle.standard.proofs.Strings.{number_of-bytes_of}
use Rattle.compression.proofs.Bytes.{high_first}
use Rattle.sums.specs.Limbs.{string_of}
use Rattle.sums.proofs.Carries.{sum_first, sum_more, sum_whole}
use Rattle.sums.proofs.total.Goals as goal

regrouped : (v h c n : ℕ) → v + h + c + n ≡ v + (h + c + n)
regrouped v h c n = omega arith

pub returns : goal.returns
returns c =
    let a = c.args in
    let moved = string_of c.plus-moved.result in
    let more = string_of c.plus-more.result in
    let all = string_of c.plus.result in
    let h = c.widened.result in
    let n = c.widened-2.result in
    let one : moved ≡ bytes_of 56 ((number_of a.v + number_of h) * 256) =
    sum_first (string_of c.limbs_of.result) (string_of c.limbs_of-2.result) moved a.v h c.plus-moved.ensures
    c.limbs_of.ensures c.limbs_of-2.ensures in
    let two : more ≡ bytes_of 56 ((number_of a.v + number_of h + number_of a.c) * 256) =
    sum_more moved (string_of c.limbs_of-3.result) more a.c _ c.plus-more.ensures one c.limbs_of-3.ensures in
    let three = sum_more more (string_of c.limbs_of-4.result) all n _ c.plus.ensures two c.limbs_of-4.ensures in
    let number : number_of n ≡ a.n =
    c.widened-2.ensures ∙ ap number_of (c.to_be_bytes.ensures ∙ high_first 8 a.n) ∙ number_of-bytes_of 8 a.n ∙ mod-eq_of_lt (omega arith) in
    sum_whole all c.number_of.result _ _ c.number_of.ensures three
    (ap₂ (λ x y. number_of a.v + x + number_of a.c + y) c.widened.ensures number ∙
    regrouped (number_of a.v) (number_of a.h) (number_of a.c) a.n)
