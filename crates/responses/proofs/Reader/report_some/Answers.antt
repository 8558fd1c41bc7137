-- One line after the other; each gets further in the window.
use Rattle.std.proofs.Common.{refl, sym, ◌∙◌, subst, length, length-drop, ap, ◌<◌, [], arith, rules}
use Rattle.text.specs.Texts.{cleared}
use Rattle.responses.specs.Pieces.{all_read, Reports}
use Rattle.responses.proofs.Windows.{reports_none, reports_then, reports_on, left_then}
use Rattle.responses.proofs.Reader.report_some.Goals as goal

pub loop-piece-init : goal.loop-piece-init
loop-piece-init c =
    let none = c.clear.ensures in
    record {
      mechanism = refl;
      same_buffer = ap cleared none;
      few = omega (arith, ap (λ t. length t.text) none);
      lines = omega arith;
      left = (0, omega arith, refl);
      first = λ same. (refl, ap (λ t. length t.text) none);
      reports =
          subst
          (λ t. Reports all_read c.args.self.now c.args.window.now [] (record { rest = c.args.window; read = all_read })
          c.args.self.now t.text)
          (sym none)
          (reports_none c.args.self.now c.args.window);
    }

pub loop-piece-preserved : goal.loop-piece-preserved
loop-piece-preserved c =
    let was = c.loop-piece.invariant in
    let next = c.report_next-piece.ensures in
    let some : 0 < length c.loop-piece.piece.rest.now = search rules in
    let further = next.further some in
    record {
      mechanism = next.same ∙ was.mechanism;
      same_buffer = next.same_buffer ∙ was.same_buffer;
      few = omega (arith, next.few, c.len.ensures, c.if-len-lt-ENOUGH.true);
      lines = omega (arith, next.lines, further, was.lines);
      left = left_then was.left next.rest;
      first = λ same. absurd (omega (arith, same, further, was.lines, ap length was.left.2, length-drop was.left.0 c.args.window.now));
      reports = reports_then all_read was.reports (reports_on _ (sym c.if-is_ok.ensures.value) next.reports);
    }
