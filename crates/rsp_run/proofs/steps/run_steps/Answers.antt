-- A step that was served leaves the steps behind it, a refused one ends the walk, and no field left is no step left.
use Rattle.std.proofs.Common.{refl}
use Rattle.rsp_run.proofs.Outputs.{none_left, refused-one, served-one}
use Rattle.std.proofs.lemmas.Result.{err_from_is_err_and}
use Rattle.rsp_run.proofs.steps.run_steps.Goals as goal

pub loop-first-init : goal.loop-first-init
loop-first-init c = λ fields are. record { fields = fields; hold = are; is = refl }

pub returns-in_err-step : goal.returns-in_err-step
returns-in_err-step c = λ fields are.
    let left = c.loop-first.invariant fields are in
    let p = err_from_is_err_and c.from_residual.result c.from_residual.ensures.1 in
    rw p.1 (refused-one left (c.run_step-step.ensures.is left.fields (c.in-Some.ensures.is left.fields left.hold)) c.in_err-step.was)

pub loop-first-preserved : goal.loop-first-preserved
loop-first-preserved c = λ fields are.
    let left = c.loop-first.invariant fields are in
    served-one left (c.run_step-step.ensures.is left.fields (c.in-Some.ensures.is left.fields left.hold)) c.in_ok-step.was

pub returns : goal.returns
returns c = λ fields are.
    let left = c.loop-first.invariant fields are in
    none_left left (c.in_default.ensures.is left.fields left.hold)
