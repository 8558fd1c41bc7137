-- The window ends inside the line, or the line ends and is taken.
use Rattle.std.proofs.Common.{length, arith, subst, ap, drop, ◌∙◌}
use Rattle.std.proofs.lemmas.Slice.{between_to_end}
use Rattle.std.specs.Option.{is_some}
use Rattle.text.specs.Texts.{written}
use Rattle.file_lines.specs.Held.{next_of, Went}
use Rattle.responses.proofs.Windows.{part_says, behind_window, behind-line}
use Rattle.responses.proofs.Reader.report_next.Goals as goal

pub returns-in_default-clause-reports : goal.returns-in_default-clause-reports
returns-in_default-clause-reports c =
    let window = c.args.window.now in
    let hold = c.hold-hold in
    behind_window c.args.self.now window (written c.args.text.now).text hold.new.line hold.result.held _ _ _
    (between_to_end window _ (length window) (omega arith) ∙ ap (λ n. drop n window) c.unwrap_or.ensures)
    (λ l h. subst (λ n. Went window 0 l (next_of window hold.result) (is_some n) hold.new.line hold.result.held) c.in_default.is
    (hold.ensures.went l h))

pub returns-clause-reports : goal.returns-clause-reports
returns-clause-reports c =
    let window = c.args.window.now in
    let hold = c.hold-hold in
    let read = c.report_line-read.ensures in
    behind-line c.args.self.now window (written c.args.text.now) _ hold.new.line hold.result.held _ c.report_line-read.new.self
    c.report_line-read.result _ _
    (between_to_end window _ (length window) (omega arith) ∙ ap (λ n. drop n window) c.unwrap_or.ensures)
    (λ l h. subst (λ n. Went window 0 l (next_of window hold.result) (is_some n) hold.new.line hold.result.held) c.in-Some.is
    (hold.ensures.went l h))
    (λ l h. part_says hold.new.line hold.result.held l (omega arith) (omega arith) h _ c.text_end-n.ensures.is)
    read.same.0 read.within.0 read.within.1 read.tells
