-- Two rotations, one outside both.
use Rattle.std.proofs.Common.{ap, arith}
use Rattle.std.specs.Int.Bits.{bit_xor}
use Rattle.standard.specs.Words.{SHR}
use Rattle.compression.proofs.WordForms.{rotations}
use Rattle.compression.proofs.words.lower_sigma_1.Goals as goal

pub returns : goal.returns
returns c =
    rw (c.rotate_right-2.ensures, c.rotate_right.ensures)
    (ap (λ y. bit_xor y (SHR 10 c.args.x)) (rotations 32 17 2 c.args.x (omega arith) (omega arith)))
