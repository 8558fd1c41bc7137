-- Each call's promise is a step of the case, and the comparison its end.
use Rattle.std.proofs.Common.{◌∙◌}
use Rattle.self_test.specs.Cases.{fresh}
use Rattle.self_test.proofs.Holding.{none, more, ok_told, gives-bytes}
use Rattle.self_test.proofs.cases.Fresh.holds.Goals as goal

pub returns : goal.returns
unfolding fresh
returns c =
    gives-bytes _ (more c.open-drawn.ensures (more c.fresh_draw-drawn.ensures none)) c.fresh_draw-drawn-2.ensures _
    (c.is_ok.ensures.value ∙ ok_told c.fresh_draw-drawn-2.result) c.same.ensures
