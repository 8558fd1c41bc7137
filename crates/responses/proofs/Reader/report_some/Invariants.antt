-- A piece that has not got further in the window is the first; what was read so far is reported.
use Rattle.std.proofs.Common.{◌+◌, ◌≤◌, ◌≡◌, true, [], length}
use Rattle.std.specs.Result.{is_ok}
use Rattle.text.specs.Texts.{written, cleared}
use Rattle.responses.specs.Sizes.{text_size}
use Rattle.responses.specs.Pieces.{all_read, Reports, IsLeft}
use Rattle.responses.proofs.Reader.report_some.Given as goal

abbrev pub invariant-loop-piece : goal.invariant-loop-piece
invariant-loop-piece l = record {
  mechanism : l.self.mechanism ≡ l.initial.self.mechanism;
  same_buffer : cleared (written l.text) ≡ cleared (written l.fn.text);
  few : length (written l.text).text ≤ text_size;
  lines : l.self.progress.lines + length l.piece.rest.now ≤ l.initial.self.progress.lines + length l.window;
  left : IsLeft l.window l.piece.rest.now;
  first : length l.piece.rest.now ≡ length l.window → (is_ok l.piece.read ≡ true) × (length (written l.text).text ≡ 0);
  reports : Reports all_read l.initial.self l.window [] l.piece l.self (written l.text).text;
}

abbrev pub decreases-loop-piece : goal.decreases-loop-piece
decreases-loop-piece l = length l.piece.rest.now
