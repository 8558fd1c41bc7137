-- Each piece goes on with the table and at the place that the one before it left, and gets further.
use Rattle.std.proofs.Common.{◌≡◌, length, ◌-◌}
use Rattle.text.specs.Texts.{written}
use Rattle.runner.specs.Run.{text_size}
use Rattle.runner.proofs.Runs.{HandedOn}
use Rattle.runner.proofs.run.Given as goal

abbrev pub invariant-loop-table : goal.invariant-loop-table
invariant-loop-table g l = record {
  size : (written l.text).size ≡ text_size;
  handed : HandedOn l.book l.table (written l.text).text l.at;
}

abbrev pub decreases-loop-table : goal.decreases-loop-table
decreases-loop-table g l = length l.book - l.at
