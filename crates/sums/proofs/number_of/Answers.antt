-- The limbs' bytes are the front of a block, and a part of it is their first 55.
use Rattle.std.proofs.Common.{◌≤◌, length, drop, replicate, take, ap, ◌∙◌, arith}
use lib.Seq.{take-append-le}
use Rattle.sums.specs.Limbs.{string_of}
use Rattle.sums.proofs.Limbs.{length-string_of}
use Rattle.sums.proofs.number_of.Goals as goal

pub returns : goal.returns
returns c =
    let limbs = c.args.limbs in
    let long : 55 ≤ length (string_of limbs) = omega (arith, length-string_of limbs) in
    c.part.ensures ∙ ap (take 55) c.put_limbs.ensures ∙ take-append-le 55 (string_of limbs) (drop 56 (replicate 64 0)) long
