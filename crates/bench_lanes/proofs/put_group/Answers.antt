-- One lane more is filled (`lane_filled`), and the others are kept. Assumes nothing.
use Rattle.std.proofs.Common.{List, ◌++◌, ◌*◌, take, ℕ, ap, ◌∙◌, arith}
use Rattle.standard.specs.Hash.{schedule, block_at}
use Rattle.standard.specs.Sha256.{sha256}
use Rattle.compression.proofs.Stores.{block_cut}
use Rattle.lanes.proofs.Lanes.{lane_filled}
use Rattle.bench_lanes.proofs.put_group.Goals as goal

pub loop-l-preserved : goal.loop-l-preserved
loop-l-preserved c =
    let l = c.loop-l.l in
    let words : List ℕ = c.loop-l.words in
    let group : List ℕ = c.args.group.now in
    let laid = c.block_words.ensures ∙ ap (λ b. schedule sha256 b 16) (block_cut group l) in (
      omega arith,
      lane_filled words c.put_lane.new.words (λ j. schedule sha256 (block_at sha256 group j) 16) l (omega arith)
          (omega arith)
          (c.put_lane.ensures ∙ ap (λ w. take (16 * l) words ++ w) laid) c.loop-l.invariant.1,
    )
