-- One limb more stands behind those put before it.
use Rattle.std.proofs.Common.{refl, arith, ◌∙◌}
use Rattle.sums.specs.Limbs.{string_of}
use Rattle.compression.proofs.Bytes.{high_first}
use Rattle.sums.proofs.Limbs.{limbs_put}
use Rattle.sums.proofs.put_limbs.Goals as goal

pub loop-i-init : goal.loop-i-init
unfolding string_of
loop-i-init c = refl

pub loop-i-preserved : goal.loop-i-preserved
loop-i-preserved c =
    let l = c.loop-i in
    let bytes = c.to_be_bytes.ensures ∙ high_first 8 _ in
    limbs_put c.args.limbs l.i (omega arith) c.args.block.now l.block _ c.to_be_bytes.result bytes c.copy.ensures l.invariant
