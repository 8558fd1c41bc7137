-- A group that others follow is read at its scale.
use Rattle.std.proofs.Common.{◌≡◌, ◌<◌, arith, length, get_or}
use Rattle.std.proofs.lemmas.Grind.{common_steps}
use Rattle.book.proofs.Groups.{one_more}
use Rattle.book.proofs.number.lenient_at.Goals as goal

pub loop-preserved : goal.loop-preserved
loop-preserved c =
    let inside : c.loop.place < length c.args.s.now = grind (arith, common_steps) in
    let is : c.from-b.result ≡ get_or c.args.s.now c.loop.place 0 = grind (arith, common_steps) in
    one_more c.loop.invariant inside is (omega arith) (omega arith) (omega arith)
