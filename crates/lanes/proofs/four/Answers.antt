-- Each lane's hash value is that of its words.
use Rattle.std.proofs.Common.{arith}
use Rattle.lanes.specs.Lanes.{no_eight}
use Rattle.lanes.proofs.four.Goals as goal

pub returns : goal.returns
returns c = λ l h block is. grind (arith, c.from_fn.ensures.items.at l no_eight h)
