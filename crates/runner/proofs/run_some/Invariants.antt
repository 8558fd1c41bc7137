-- The lines so far and what is left are all that was to be printed.
use Rattle.std.proofs.Common.{◌≡◌, length, ◌-◌, ◌≤◌, ◌<◌}
use Rattle.text.specs.Texts.{written, cleared}
use Rattle.runner.specs.Run.{text_size}
use Rattle.runner.proofs.Runs.{SoFar}
use Rattle.runner.proofs.run_some.Given as goal

abbrev pub invariant-loop-at : goal.invariant-loop-at
invariant-loop-at l = record {
  place : l.fn.from ≤ l.at;
  further : 0 < length (written l.text).text → l.fn.from < l.at;
  size : (written l.text).size ≡ text_size;
  same_buffer : cleared (written l.text) ≡ cleared (written l.fn.text);
  so_far : SoFar l.book l.fn.table l.from l.table l.at (written l.text).text;
}

abbrev pub decreases-loop-at : goal.decreases-loop-at
decreases-loop-at l = length l.book - l.at
