-- Where every step was served, the output is the last draw's.
use Rattle.std.proofs.Common.{ap₂, ◌∙◌, ◌&&◌}
use Rattle.rsp_run.proofs.Passing.{steps_compared}
use Rattle.rsp_run.proofs.gives.Goals as goal

pub returns : goal.returns
returns c = λ fields are.
    ap₂ (λ a b. a && b) c.is_ok.ensures.value c.same.ensures ∙
    steps_compared c.args.fields.now c.args.handle c.args.table.now c.args.out.now _ c.args.returned.now
    c.run_steps-served.result c.run_steps-served.ensures fields are
