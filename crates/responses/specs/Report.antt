-- What is reported on a response file: a line for each case, at what it returned, and one for a line that can't be read, which ends it.
use Rattle.std.specs.Prelude.{ℕ, ◌+◌, cond, List, [], ◌∷◌, ◌++◌, eqb}
use Rattle.text.specs.Ascii.{ascii}
use Rattle.text.specs.Digits.{decimal}
use Rattle.file_lines.specs.Lines.{lines_of}
use Rattle.rsp_line.specs.Lines.{says}
use Rattle.rsp_case.specs.Reading.{State, beginning, takes, Taken, goes, whole, passed_over, unread}
use Rattle.rsp_case.specs.declared.point.Point.{Point}
use Rattle.rsp_run.specs.Run.{passes}

-- a file is read from a state, or no more
pub data Now : Type 0 where
  reading : State → Now
  stopped : Now

abbrev pub after : Taken → Now
after (goes s) = reading s
after (whole s c) = reading s
after (passed_over s number) = reading s
after unread = stopped

unfoldable pub verdict : (number : ℕ) (word : List ℕ) → List ℕ
verdict number word = decimal number ++ word

unfoldable pub unread_line : (n : ℕ) → List ℕ
unread_line n = ascii "line " ++ decimal n ++ ascii "\n"

-- what line n reports, with the mechanism that was told; prediction resistance is what the headings said of it
abbrev pub line_for : (mechanism n : ℕ) → Taken → List ℕ
line_for mechanism n (goes s) = []
line_for mechanism n (whole s c) =
    verdict c.number (cond (passes mechanism s.point.heads.fresh c) (ascii " pass\n") (ascii " fail\n"))
line_for mechanism n (passed_over s number) = verdict number (ascii " passed over\n")
line_for mechanism n unread = unread_line n

-- line n
abbrev pub line_on : (mechanism n : ℕ) → Now → (l : List ℕ) → List ℕ
line_on mechanism n stopped l = []
line_on mechanism n (reading s) l = line_for mechanism n (takes s (says l))

abbrev pub behind : Now → (l : List ℕ) → Now
behind stopped l = stopped
behind (reading s) l = after (takes s (says l))

-- behind n lines the file ends: inside a case it lacks one
abbrev pub lacking : (n : ℕ) → Point → List ℕ
lacking n p = cond (eqb p.last 0) [] (unread_line (n + 1))

abbrev pub end_on : (n : ℕ) → Now → List ℕ
end_on n stopped = []
end_on n (reading s) = lacking n s.point

-- the lines behind n lines
unfoldable pub report : (mechanism n : ℕ) (lines : List (List ℕ)) → Now → List ℕ
report mechanism n [] now = end_on n now
report mechanism n (l ∷ lines) now = line_on mechanism (n + 1) now l ++ report mechanism (n + 1) lines (behind now l)

unfoldable pub report_of : (mechanism : ℕ) (file : List ℕ) → List ℕ
report_of mechanism file = report mechanism 0 (lines_of file) (reading beginning)
