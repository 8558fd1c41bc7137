-- A window that was read is handed on with what the ones before it left.
use Rattle.std.proofs.Common.{length, ◌≡◌}
use Rattle.text.specs.Texts.{written}
use Rattle.responses.specs.Sizes.{text_size}
use Rattle.responses.specs.Pieces.{all_read}
use Rattle.respond.specs.Reading.{Going, window_size}
use Rattle.respond.proofs.Handed.{Handed}
use Rattle.respond.proofs.reading.report_file.Given as goal

abbrev pub invariant-loop : goal.invariant-loop
invariant-loop g l =
    record {
      window : length l.window ≡ window_size;
      size : (written l.text).size ≡ text_size;
      going : Going l.reader;
      handed : Handed l.mechanism all_read l.reader;
    }
