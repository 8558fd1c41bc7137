-- A block more in its lane, and the data moves on by a turn.
use Rattle.std.proofs.Common.{◌≡◌, ◌+◌, ◌*◌, ◌≤◌, ◌++◌, ap, subst, ◌∙◌, length, take, arith}
use Rattle.standard.specs.Hash.{schedule}
use Rattle.standard.specs.Sha256.{sha256}
use Rattle.drbg_shared.proofs.Short.{padded-55}
use Rattle.sums.specs.Limbs.{string_of}
use Rattle.lanes.proofs.Lanes.{lane_filled}
use Rattle.hashgen.specs.Turns.{turn_data, turn_block, Ready}
use Rattle.hashgen.proofs.groups.put_blocks.Goals as goal

pub loop-l-preserved : goal.loop-l-preserved
loop-l-preserved c =
    let put = c.put_words in
    let l = c.loop-l in
    let further = c.one_more in
    let old = take (16 * l.l) l.words in
    let room : 16 * l.l + 16 ≤ length l.words = omega arith in
    let size : length put.new.words ≡ length l.words = omega arith in (
      omega arith,
      omega arith,
      λ v n ready.
          let so_far = l.invariant.2 v n ready in
          let here = n + l.l in
          let next : here + 1 ≡ n + (l.l + 1) = omega arith in
          let block = padded-55 (turn_data v here) (string_of l.next) so_far.1 in (
            lane_filled l.words put.new.words (λ j. schedule sha256 (turn_block v (n + j)) 16) l.l room size
                (put.ensures ∙ ap (λ b. old ++ schedule sha256 b 16) block) so_far.0,
            subst (λ k. Ready v k further.result) next (further.ensures v here so_far.1),
          ),
    )
