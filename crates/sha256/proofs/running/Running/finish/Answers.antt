-- The padding is one block more where the length still fits behind the mark, else two.
use Rattle.std.proofs.Common.{arith}
use Rattle.sha256.proofs.LastBlocks.{fed-one_block, fed_two_blocks}
use Rattle.sha256.proofs.running.Running.finish.Goals as goal

pub returns-then-fill-lt56 : goal.returns-then-fill-lt56
returns-then-fill-lt56 c =
    let first = c.marked-first in
    let last = c.with_length-last in
    fed-one_block c.args.self first.result (omega arith) (omega arith) first.ensures c.absorb.result last.result
    c.if-fill-lt56.true last.ensures (omega arith) c.absorb.ensures

pub returns : goal.returns
returns c =
    let first = c.marked-first in
    let last = c.with_length-last-2 in
    fed_two_blocks c.args.self first.result (omega arith) (omega arith) first.ensures c.absorb-next.result c.absorb-2.result last.result
    c.if-fill-lt56.false last.ensures (omega arith) c.absorb-next.ensures c.absorb-2.ensures
