-- Two rotations, one outside both.
use Rattle.std.proofs.Common.{ap, arith}
use Rattle.std.specs.Int.Bits.{bit_xor}
use Rattle.standard.specs.Words.{ROTR}
use Rattle.compression.proofs.WordForms.{rotations}
use Rattle.compression.proofs.words.upper_sigma_0.Goals as goal

pub returns : goal.returns
returns c =
    rw (c.rotate_right-2.ensures, c.rotate_right-3.ensures, c.rotate_right.ensures)
    (ap (λ y. bit_xor y (ROTR 32 22 c.args.x)) (rotations 32 2 11 c.args.x (omega arith) (omega arith)))
