-- The limbs are the copied string and the byte behind it.
use Rattle.std.proofs.Common.{◌≡◌, ◌*◌, ◌<◌, ℕ, [], ◌∷◌, ◌++◌, get_or, take, drop, replicate, ◌∙◌, arith}
use Rattle.standard.specs.Strings.{bytes_of}
use Rattle.sums.proofs.Limbs.{limbs_read}
use Rattle.copies.proofs.Pasted.{pasted}
use Rattle.sums.proofs.limbs_of.Goals as goal

pub returns : goal.returns
returns c =
    let a = c.args in
    let whole = c.copy.new.to in
    let filled : whole ≡ a.s ++ (a.last ∷ []) = c.copy.ensures ∙ pasted (replicate 56 a.last) a.s 0 55 (omega arith) in
    let each : (i : ℕ) → i < 7 → bytes_of 8 (get_or c.from_fn.result i 0) ≡ take 8 (drop (8 * i) whole) =
    λ i h. grind (arith, c.from_fn.ensures.items.at i 0 h) in
    limbs_read _ whole c.from_fn.ensures.items.long each (omega arith) ∙ filled
