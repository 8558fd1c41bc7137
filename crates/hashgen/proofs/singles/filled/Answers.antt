-- The turn's block is hashed, and as much of its hash as there is room for goes into the output.
use Rattle.std.proofs.Common.{◌≡◌, ◌*◌, ◌<◌, ap, ◌∙◌, length, arith}
use Rattle.standard.specs.Hash.{digest, compressed}
use Rattle.standard.specs.Sha256.{sha256}
use Rattle.drbg_shared.proofs.Short.{padded-55}
use Rattle.sums.specs.Limbs.{string_of}
use Rattle.hashgen.specs.Turns.{turn_data, turn_block}
use Rattle.hashgen.proofs.Turns.{filled-stored}
use Rattle.hashgen.proofs.singles.filled.Goals as goal

pub loop-turn-preserved : goal.loop-turn-preserved
loop-turn-preserved c =
    let l = c.loop-turn in
    let w = c.hash_of_block.result in
    let new = c.store.new.out in
    let size : length new ≡ length l.out = c.store.auto.out in
    let inside : 32 * l.turn < length l.out = omega arith in
    λ v first.
    let after = l.invariant v first in
    let padded : c.only_block-block.result ≡ turn_block v l.turn =
    c.only_block-block.ensures ∙ padded-55 (turn_data v l.turn) (string_of l.next) after.ready in
    let w-is : w ≡ digest sha256 (compressed sha256 sha256.initial (turn_block v l.turn)) =
    c.hash_of_block.ensures ∙ ap (λ b. digest sha256 (compressed sha256 sha256.initial b)) padded in
    record {
      ready = c.one_more.ensures v l.turn after.ready;
      filled = filled-stored v l.turn l.out new w w-is after.filled size inside c.store.ensures;
    }
