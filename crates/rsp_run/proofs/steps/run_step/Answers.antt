-- The names of the first two fields tell the step, and its call is made with their values.
use Rattle.rsp_case.specs.Cases.{draws, fresh_draws, reseeds}
use Rattle.rsp_run.proofs.Walks.{reseed_next, fresh_draw_next, draw-next, last_draw, made-step}
use Rattle.rsp_run.proofs.steps.run_step.Goals as goal
use Rattle.rsp_run.proofs.steps.run_step.Goals.{in_default-via-in-Some-2+else-second-eq-ENTROPY_INPUT_PR, in_default-via-in_default}

pub returns-in-Some-clause-is : goal.returns-in-Some-clause-is
returns-in-Some-clause-is c = λ fields one.
    let two = c.in-Some.ensures.is one.others one.rest in
    made-step (reseeds _ _) two.others _ _ (reseed_next _ fields one _ two c.if-first-eq-ENTROPY_INPUT_RESEED.true) two.rest
    c.reseed-outcome.ensures

pub returns-in-Some-2-clause-is : goal.returns-in-Some-2-clause-is
returns-in-Some-2-clause-is c = λ fields one.
    let two = c.in-Some.ensures.is one.others one.rest in
    made-step (fresh_draws _ _) two.others _ _
    (fresh_draw_next _ fields one _ two c.if-first-eq-ENTROPY_INPUT_RESEED.false c.if-second-eq-ENTROPY_INPUT_PR.true)
    two.rest c.fresh_draw-outcome.ensures

pub returns-in_default-clause-is : goal.returns-in_default-clause-is
returns-in_default-clause-is c = λ fields one.
    made-step (draws _) one.others _ _
    (elim c.in_default.branch [
      | in_default-via-in-Some-2+else-second-eq-ENTROPY_INPUT_PR w ↦
          draw-next _ fields one _ (w.in-Some.ensures.is one.others one.rest) w.if-first-eq-ENTROPY_INPUT_RESEED.false
          w.if-second-eq-ENTROPY_INPUT_PR.false
      | in_default-via-in_default w ↦ last_draw _ fields one (w.in_default.ensures.is one.others one.rest)
    ])
    one.rest c.draw-outcome.ensures
