-- Each byte looked at is one less in the test of what is left.
use Rattle.std.proofs.Common.{◌∙◌, sym, ap, length, inl, inr, arith}
use Rattle.same.proofs.Sameness.{other_lengths, same_next, same_end}
use Rattle.same.proofs.same.Goals as goal

pub returns-then-a-b : goal.returns-then-a-b
returns-then-a-b c = other_lengths _ _ c.if-a-b.true

pub loop-x-preserved : goal.loop-x-preserved
loop-x-preserved c =
    let s = c.in-Some.ensures.steps in
    (omega (arith, ap length s.0, ap length s.1), same_next c.loop-x.equal s.0 s.1 ∙ c.loop-x.invariant.1)

pub returns : goal.returns
returns c =
    let invariant = c.loop-x.invariant in
    sym (same_end _ _ c.loop-x.equal invariant.0 (elim c.in-None.ensures.steps [ inl w ↦ inl w.1.0 | inr w ↦ inr w.1.0 ])) ∙ invariant.1
