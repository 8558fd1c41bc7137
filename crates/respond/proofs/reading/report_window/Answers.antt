-- A piece's report begins where the one before it ended.
use Rattle.std.proofs.Common.{◌<◌, length, refl, ◌∙◌, arith, rules}
use Rattle.responses.specs.Pieces.{all_read}
use Rattle.respond.proofs.Handed.{goes_first, goes-next, goes_on}
use Rattle.respond.proofs.reading.report_window.Goals as goal

pub loop-rest-init : goal.loop-rest-init
loop-rest-init c = record {
  few = c.requires.going.1;
  same_buffer = refl;
  mechanism = refl;
  going = c.requires.going.0;
  goes = goes_first all_read;
}

pub loop-rest-preserved : goal.loop-rest-preserved
loop-rest-preserved c =
    let piece = c.report_some-piece.ensures in
    let some : 0 < length c.loop-rest.rest.now = search rules in
    record {
      few = omega (arith, piece.further some, c.loop-rest.invariant.few);
      same_buffer = piece.same_buffer ∙ c.loop-rest.invariant.same_buffer;
      mechanism = piece.same ∙ c.loop-rest.invariant.mechanism;
      going = omega (arith, c.lines.ensures, c.if-lines-gt-MOST.false);
      goes = goes_on all_read _ (c.in_ok-write_piece.ensures refl) (goes-next all_read c.loop-rest.invariant.goes piece.reports);
    }
