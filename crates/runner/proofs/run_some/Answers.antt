-- Each record is read where the one before it ended, its line is written behind theirs, and it ends behind its own place.
use Rattle.std.proofs.Common.{arith, sym, ap, ◌∙◌}
use Rattle.text.specs.Texts.{cleared}
use Rattle.book.specs.Values.{record_of}
use Rattle.standard.specs.Strings.{Bytes}
use Rattle.book.proofs.Records.{said}
use Rattle.runner.proofs.Runs.{one_more, ends-bad}
use Rattle.runner.proofs.run_some.Goals as goal

pub returns-in_default-clause-prints : goal.returns-in_default-clause-prints
returns-in_default-clause-prints c =
    let bytes : Bytes c.args.book.now = record { at = λ i. omega (arith, c.type_inv.book i) } in
    rw (ap (λ w. w.text) c.bad_line.ensures)
    (ends-bad c.args.book.now bytes _ _ _ _ _ c.loop-at.invariant.so_far c.loop-at-test.true
    (sym (ap record_of c.in_default.is) ∙ c.record_at.ensures.meaning))

pub run_record-requires-clause-fits : goal.run_record-requires-clause-fits
run_record-requires-clause-fits c =
    let bytes : Bytes c.args.book.now = record { at = λ i. omega (arith, c.type_inv.book i) } in
    (said c.args.book.now bytes c.in-Some.ensures.meaning).fits

pub loop-at-smaller : goal.loop-at-smaller
loop-at-smaller c =
    let bytes : Bytes c.args.book.now = record { at = λ i. omega (arith, c.type_inv.book i) } in
    let read = said c.args.book.now bytes c.in-Some.ensures.meaning in
    omega (arith, read.further, read.inside)

pub loop-at-preserved : goal.loop-at-preserved
loop-at-preserved c =
    let bytes : Bytes c.args.book.now = record { at = λ i. omega (arith, c.type_inv.book i) } in
    let read = said c.args.book.now bytes c.in-Some.ensures.meaning in
    let ran = c.run_record.ensures in
    record {
      place = omega (arith, read.further);
      further = λ some. omega (arith, read.further);
      size = ap (λ w. w.size) ran.line ∙ c.loop-at.invariant.size;
      same_buffer = ap cleared ran.line ∙ c.loop-at.invariant.same_buffer;
      so_far =
          rw (ap (λ w. w.text) ran.line)
          (one_more c.args.book.now bytes _ _ _ _ _ c.loop-at.invariant.so_far _ c.in-Some.ensures.meaning ran.moves);
    }
