-- Each call's promise is a step of the case, and the comparison its end.
use Rattle.std.proofs.Common.{◌∙◌}
use Rattle.self_test.specs.Cases.{reseeded}
use Rattle.self_test.proofs.Holding.{none, more, ok_told, gives-bytes}
use Rattle.self_test.proofs.cases.Reseeded.holds.Goals as goal

pub returns : goal.returns
unfolding reseeded
returns c =
    gives-bytes _ (more c.open-drawn.ensures (more c.reseed-drawn.ensures (more c.draw-drawn.ensures none))) c.draw-drawn-2.ensures _
    (c.is_ok.ensures.value ∙ ok_told c.draw-drawn-2.result) c.same.ensures
