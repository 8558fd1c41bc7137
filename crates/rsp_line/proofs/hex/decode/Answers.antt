-- Each pair is the next two of the digits.
use Rattle.std.proofs.Common.{length-set, ◌∙◌, ◌+◌, ◌*◌, ◌/◌, ◌<◌, length, arith}
use Rattle.rsp_line.proofs.Digits.{digit_lt, pair_at, decoded_more, decoded_all}
use Rattle.rsp_line.proofs.hex.decode.Goals as goal

pub byte_of-requires : goal.byte_of-requires
byte_of-requires c =
    let s = c.args.s.now in
    let i = c.loop-i.i in
    let here : i < length s / 2 = omega (arith, c.as_chunks.ensures.front_len) in
    let at = pair_at s (length s / 2) i here (omega arith) in
    rw (c.as_chunks.ensures.front, at.0, at.1)
    (digit_lt s c.requires.0 (2 * i) (omega arith), digit_lt s c.requires.0 (2 * i + 1) (omega arith))

pub loop-i-preserved : goal.loop-i-preserved
loop-i-preserved c =
    let s = c.args.s.now in
    let i = c.loop-i.i in
    let here : i < length s / 2 = omega (arith, c.as_chunks.ensures.front_len) in
    let at = pair_at s (length s / 2) i here (omega arith) in
    let is = rw (c.as_chunks.ensures.front, at.0, at.1) at c.byte_of.ensures in
    record {
      size = length-set c.loop-i.out (c.args.at + i) c.byte_of.result ∙ c.loop-i.invariant.size;
      bytes = decoded_more c.loop-i.invariant.bytes c.byte_of.result (omega arith) (omega arith) is;
    }

pub returns : goal.returns
returns c = decoded_all c.loop-i.invariant.bytes c.requires.0 _ c.as_chunks.ensures.front_len (omega arith)
