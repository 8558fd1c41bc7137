-- Refreshed, filled and stepped are the parts of the standard's draw, which `drawn-stands` puts together. The sums fit since a draw of a
-- request within the limits is at most 8,288 blocks.
use Rattle.std.proofs.Common.{◌≡◌, List, length, ℕ, ap, ◌∙◌, arith}
use Rattle.standard.specs.HashDrbg.{hashgen}
use Rattle.standard.specs.Sha256.{sha256}
use Rattle.drbg_shared.specs.Costs.{costing}
use Rattle.sums.proofs.Limbs.{value-behind, marked_behind}
use Rattle.drbg_hash.proofs.Standing.{drawn-stands}
use Rattle.drbg_hash.proofs.generator.HashDrbgDrbg.drawn.Goals as goal

pub filled-output-requires : goal.filled-output-requires
filled-output-requires c =
    let seven : length c.limbs_of-data.result ≡ 7 = omega arith in
    (seven, c.requires.0, marked_behind c.limbs_of-data.result c.refresh-begun.new.v seven c.limbs_of-data.ensures)

pub returns : goal.returns
returns c =
    let a = c.args in
    let v : List ℕ = c.refresh-begun.new.v in
    let n : ℕ = length a.out.now in
    let seven : length c.limbs_of-data.result ≡ 7 = omega arith in
    let filled_is : costing c.filled-output.result c.filled-output.new.out ≡ hashgen sha256 n v =
    c.filled-output.ensures.is ∙ ap (hashgen sha256 n) (value-behind c.limbs_of-data.result v 128 seven c.limbs_of-data.ensures) in
    let bounds = c.requires in
    let drawn = drawn-stands a.first.now a.second.now a.counter n a.additional.now v _ _ _ _ _ c.refresh-begun.ensures filled_is
    c.step-last.ensures (omega arith, omega arith) bounds.0 bounds.1 in
    record { is = drawn.0; few = drawn.1.0; sized = (drawn.1.1, omega arith) }

pub overflow_add-result : goal.overflow_add-result
overflow_add-result c = record { fits = omega (arith, (returns c).few) }

pub overflow_add-result-2 : goal.overflow_add-result-2
overflow_add-result-2 c = record { fits = omega (arith, (returns c).few) }
