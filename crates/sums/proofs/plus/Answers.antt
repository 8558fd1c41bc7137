-- One limb is done, and its carry goes to the limb before it.
use Rattle.std.proofs.Common.{◌≡◌, ◌+◌, ◌-◌, get_or, sym, arith, rules}
use Rattle.sums.proofs.Carries.{limbs_added, limb_done, limbs_all, limbs_none}
use Rattle.sums.proofs.plus.Goals as goal

pub loop-i-init : goal.loop-i-init
loop-i-init c = (omega arith, limbs_all c.args.a c.args.b (omega arith) (omega arith))

pub loop-i-preserved : goal.loop-i-preserved
loop-i-preserved c =
    let l = c.loop-i in
    let a = c.args in
    let i = l.i - 1 in
    let back : l.i ≡ i + 1 = omega arith in
    let carry = c.from.result + c.from-in-loop-i.result in
    let added = limbs_added (get_or a.a i 0) (get_or a.b i 0) l.carry _ _ _ _ c.from.ensures c.from-in-loop-i.ensures
    (omega arith) (omega arith) (omega arith) (omega arith) (omega arith) in (
      search rules,
      limb_done a.a a.b l.sum _ i l.carry _ carry (omega arith) (omega arith) (omega arith) (omega arith) (omega arith) added.0 added.1
          (rw back at l.invariant.1),
    )

pub returns : goal.returns
returns c =
    let l = c.loop-i in
    let none : l.i ≡ 0 = omega arith in
    sym (limbs_none _ l.sum _ (rw none at l.invariant.1))
