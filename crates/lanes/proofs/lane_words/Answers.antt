-- The lane's words two by two.
use Rattle.std.proofs.Common.{◌≡◌, ◌+◌, ◌*◌, sym, ◌∙◌, take_all, arith, rules}
use Rattle.lanes.proofs.Lanes.{two_more}
use Rattle.lanes.proofs.lane_words.Goals as goal

pub loop-i-preserved : goal.loop-i-preserved
loop-i-preserved c =
    let l = c.loop-i in
    let a = c.args in
    let next : 2 * l.i + 2 ≡ 2 * (l.i + 1) = omega arith in
    (search rules, rw next at (two_more l.w a.words.now (16 * a.l) (2 * l.i) (omega arith) (omega arith) l.invariant.1))

pub returns : goal.returns
returns c =
    let l = c.loop-i in
    let all : 2 * l.i ≡ 16 = omega arith in
    sym (take_all 16 l.w (omega arith)) ∙ (rw all at l.invariant.1)
