-- As two numbers.
use Rattle.std.proofs.Common.{◌+◌, arith}
use Rattle.std.specs.Int.{w128}
use Rattle.slots.proofs.LittleEndian.{number_read}
use Rattle.slots.proofs.ZeroBytes.{zero_rest}
use Rattle.slots.proofs.sound.rest_is_zero.Goals as goal

pub returns : goal.returns
returns c =
    let s = c.args.s.now in
    let at = c.args.at in
    zero_rest at s (number_read w128 (at + 32) s c.from_le_bytes-low.ensures c.part.ensures (omega arith))
    (number_read w128 (at + 39) s c.from_le_bytes-high.ensures c.part-2.ensures (omega arith))
