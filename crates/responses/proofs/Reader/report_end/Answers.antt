-- Behind a line's end, or inside a line, which is taken.
use Rattle.std.proofs.Common.{ap, ◌∙◌, arith, length-take}
use Rattle.text.specs.Texts.{written, cleared}
use Rattle.responses.proofs.Endings.{ends-none, ends-unread, ends_read}
use Rattle.responses.proofs.Reader.report_end.Goals as goal
use Rattle.responses.proofs.Reader.report_end.Goals.{then-held-ne0+in_ok-report_line, else-held-ne0}

pub returns-in_err-report_line-clause-ends : goal.returns-in_err-report_line-clause-ends
returns-in_err-report_line-clause-ends c =
    ends-unread c.args.self.now (written c.clear.new.self) (ap (λ t. t.text) c.clear.ensures) (omega arith) c.args.self.now.inside.1
    c.if-held-ne0.true _ _ _ _ _ c.in_err-report_line.ensures.tells

pub returns-clause-same_buffer : goal.returns-clause-same_buffer
returns-clause-same_buffer c =
    let close = c.report_close.ensures.same_buffer in
    let clear = ap cleared c.clear.ensures in
    elim c.if-held-ne0.branch [
      | then-held-ne0+in_ok-report_line w ↦
          close ∙ ap (λ t. cleared (written t)) w.text-is ∙ w.report_line.ensures.same_buffer ∙ clear
      | else-held-ne0 w ↦ close ∙ ap (λ t. cleared (written t)) w.text-is ∙ clear
    ]

pub returns-clause-within : goal.returns-clause-within
returns-clause-within c =
    let t = c.report_close.new.text in
    let size = ap (λ w. w.size) (returns-clause-same_buffer c) ∙ c.requires.size in
    (omega (arith, length-take t.len t.out.now, size), size)

pub returns-clause-same : goal.returns-clause-same
returns-clause-same c =
    elim c.if-held-ne0.branch [
      | then-held-ne0+in_ok-report_line w ↦
          let same = w.report_line.ensures.same in
          (ap (λ r. r.mechanism) w.self-is ∙ same.0, ap (λ r. r.line) w.self-is ∙ same.1)
      | else-held-ne0 w ↦ (ap (λ r. r.mechanism) w.self-is, ap (λ r. r.line) w.self-is)
    ]

pub returns-clause-lines : goal.returns-clause-lines
returns-clause-lines c =
    elim c.if-held-ne0.branch [
      | then-held-ne0+in_ok-report_line w ↦
          let one = ap (λ r. r.progress.lines) w.self-is ∙ w.report_line.ensures.within.0 in
          (omega (arith, one), omega (arith, one))
      | else-held-ne0 w ↦ let none = ap (λ r. r.progress.lines) w.self-is in (omega (arith, none), omega (arith, none))
    ]

pub returns-clause-ends : goal.returns-clause-ends
returns-clause-ends c =
    elim c.if-held-ne0.branch [
      | then-held-ne0+in_ok-report_line w ↦
          let wrote = rw w.self-is at (rw w.text-is at c.report_close.ensures.wrote) in
          ends_read c.args.self.now (written c.clear.new.self) (ap (λ t. t.text) c.clear.ensures) (omega arith) c.args.self.now.inside.1
          w.if-held-ne0.true _ _ _ _ _ w.in_ok-report_line.ensures.tells w.report_line.ensures.within.0 wrote
      | else-held-ne0 w ↦
          let wrote = rw w.self-is at (rw w.text-is at c.report_close.ensures.wrote) in
          ends-none c.args.self.now (written c.clear.new.self) (ap (λ t. t.text) c.clear.ensures) w.if-held-ne0.false wrote
    ]
