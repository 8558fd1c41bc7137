-- A book above 65,536 bytes is not run at all; any other is run from place 0 and a table of zeros.
use Rattle.std.proofs.Common.{ap, ◌∙◌, ◌++◌, arith}
use Rattle.book.specs.Lines.{bad_line}
use Rattle.standard.specs.Strings.{Bytes}
use Rattle.runner.proofs.Runs.{first-long, first_short}
use Rattle.runner.proofs.run_first.Goals as goal

pub returns-then-book-gt65536-clause-prints : goal.returns-then-book-gt65536-clause-prints
returns-then-book-gt65536-clause-prints c =
    let bytes : Bytes c.args.book.now = record { at = λ i. omega (arith, c.type_inv.book i) } in
    rw (ap (λ w. w.text) c.bad_line.ensures ∙ ap (λ w. w.text ++ bad_line 0) c.clear.ensures)
    (first-long c.args.book.now bytes _ (omega arith))

pub returns-clause-prints : goal.returns-clause-prints
returns-clause-prints c =
    let bytes : Bytes c.args.book.now = record { at = λ i. omega (arith, c.type_inv.book i) } in
    rw (← c.run_some.ensures.prints, c.requires.table_value) (first_short c.args.book.now bytes (omega arith))
