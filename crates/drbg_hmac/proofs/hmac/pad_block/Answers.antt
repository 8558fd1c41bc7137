-- A byte is xored in its place, and what stands behind the first 32 stays.
use Rattle.std.proofs.Common.{◌≡◌, ◌++◌, ◌∷◌, [], refl, sym, ap, ap₂, ◌∙◌, get_or, length-set, take-append-drop, drop-set-lt, arith}
use Rattle.std.specs.Int.Bits.{bit_xor}
use Rattle.standard.specs.Hmac.{xored}
use Rattle.compression.proofs.Stores.{take_more_set}
use Rattle.drbg_hmac.proofs.Pads.{xored-more, xored-filled}
use Rattle.drbg_hmac.proofs.hmac.pad_block.Goals as goal

pub loop-i-init : goal.loop-i-init
unfolding xored
loop-i-init c = (refl, refl, refl)

pub loop-i-preserved : goal.loop-i-preserved
loop-i-preserved c =
    let l = c.loop-i in
    let key = c.args.key.now in (
      length-set l.block l.i _ ∙ l.invariant.0,
      take_more_set l.block l.i _ (omega arith) ∙
          ap (λ p. p ++ (bit_xor (get_or key l.i 0) c.args.pad ∷ [])) l.invariant.1 ∙
          xored-more c.args.pad key l.i (omega arith),
      drop-set-lt 32 l.block l.i _ (omega arith) ∙ l.invariant.2,
    )

pub returns : goal.returns
returns c =
    let l = c.loop-i in
    let all : l.i ≡ 32 = omega arith in
    sym (take-append-drop 32 l.block) ∙
    ap₂ ◌++◌ (rw all at l.invariant.1) l.invariant.2 ∙
    xored-filled c.args.pad c.args.key.now (omega arith)
