-- The words one behind the other are the 32 bytes.
use Rattle.std.proofs.Common.{◌∙◌, append-nil, arith, take_all}
use Rattle.standard.specs.Hash.{digest}
use Rattle.compression.proofs.Bytes.{high_first}
use Rattle.compression.proofs.digest.bytes_of.Goals as goal

pub returns : goal.returns
unfolding digest
returns c =
    let s = c.args.s in
    c.part.ensures ∙
    take_all 32 c.as_flattened.result.now (omega arith) ∙
    c.as_flattened.ensures.value ∙
    rw (
      append-nil c.to_be_bytes-8.result,
      c.to_be_bytes-8.ensures,
      c.to_be_bytes-7.ensures,
      c.to_be_bytes-6.ensures,
      c.to_be_bytes-5.ensures,
      c.to_be_bytes-4.ensures,
      c.to_be_bytes-3.ensures,
      c.to_be_bytes-2.ensures,
      c.to_be_bytes.ensures,
      ← high_first 4 s.a,
      ← high_first 4 s.b,
      ← high_first 4 s.c,
      ← high_first 4 s.d,
      ← high_first 4 s.e,
      ← high_first 4 s.f,
      ← high_first 4 s.g,
      ← high_first 4 s.h,
    )
