-- The steps that are left, from the table and the output so far, give what all of them give.
use Rattle.std.proofs.Common.{◌≡◌, List, length}
use Rattle.rsp_case.specs.Cases.{Field, steps_of}
use Rattle.rsp_case.specs.Store.{stored}
use Rattle.rsp_run.specs.Run.{output_of}
use Rattle.rsp_run.proofs.Outputs.{Left}
use Rattle.rsp_run.proofs.steps.run_steps.Given as goal

abbrev pub invariant-loop-first : goal.invariant-loop-first
invariant-loop-first l =
    (fields : List Field) → l.fields ≡ stored fields
    → Left l.handle (output_of l.handle l.initial.table l.initial.out (steps_of fields)) l.left l.table l.out

abbrev pub decreases-loop-first : goal.decreases-loop-first
decreases-loop-first l = length l.left
