-- What is known before the first window, and behind each.
use Rattle.std.proofs.Common.{rules, refl, ap, ◌∙◌, arith}
use Rattle.respond.proofs.Handed.{handed_first, handed_next}
use Rattle.respond.proofs.reading.report_file.Goals as goal

pub loop-init : goal.loop-init
loop-init g c =
    let new = c.new-reader.ensures in
    record {
      window = refl;
      size = ap (λ t. t.size) c.over-text.ensures;
      going = omega (arith, ap (λ p. p.lines) new.begins);
      handed = handed_first c.new-reader.result new.mechanism new.begins;
    }

pub loop-preserved : goal.loop-preserved
loop-preserved g c =
    let ran = c.in_ok-report_window.ensures in
    record {
      window = search rules;
      size = ap (λ w. w.size) c.report_window.ensures.same_buffer ∙ c.loop.invariant.size;
      going = ran.going;
      handed = handed_next c.loop.invariant.handed ran.on;
    }
