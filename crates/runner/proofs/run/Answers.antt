-- What the next piece writes, and what it leaves, is what the one before it left.
use Rattle.runner.proofs.Runs.{handed_next}
use Rattle.runner.proofs.run.Goals as goal

pub loop-table-preserved : goal.loop-table-preserved
loop-table-preserved g c =
    let some = c.run_some-at.ensures in
    record { size = some.within.1; handed = handed_next c.loop-table.invariant.handed some.prints }
