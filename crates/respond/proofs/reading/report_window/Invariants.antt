-- Each piece goes on with what the one before it left.
use Rattle.std.proofs.Common.{length, ◌≡◌, ◌≤◌}
use Rattle.text.specs.Texts.{written, cleared}
use Rattle.responses.specs.Pieces.{all_read}
use Rattle.respond.specs.Reading.{Going, GoesOn, window_size}
use Rattle.respond.proofs.reading.report_window.Given as goal

abbrev pub invariant-loop-rest : goal.invariant-loop-rest
invariant-loop-rest l =
    record {
      few : length l.rest ≤ window_size;
      same_buffer : cleared (written l.text) ≡ cleared (written l.initial.text);
      mechanism : l.reader.mechanism ≡ l.initial.reader.mechanism;
      going : Going l.reader;
      goes : GoesOn all_read l.initial.reader l.window l.rest all_read l.reader;
    }

abbrev pub decreases-loop-rest : goal.decreases-loop-rest
decreases-loop-rest l = length l.rest
