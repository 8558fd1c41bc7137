-- What is promised where a file is read through a window: what was reported, and the report on the rest, are the report on the whole,
-- whatever the rest is.
use Rattle.std.specs.Prelude.{ℕ, ◌+◌, ◌≤◌, ◌≡◌, List, [], ◌++◌, take, drop, length, Result, Ok, Err}
use Rattle.text.specs.Writing.{Written, ◌then◌}
use Rattle.file_lines.specs.Lines.{lines_from}
use Rattle.file_lines.specs.Held.{Holds}
use Rattle.rsp_line.specs.Lines.{says}
use Rattle.rsp_case.specs.Store.{stored}
use Rattle.rsp_case.specs.Reading.{State, begun, takes}
use Rattle.responses.specs.Report.{Now, reading, stopped, after, line_for, report}
use Rattle.responses.specs.declared.Progress.{Progress}
use Rattle.responses.specs.declared.Piece.{Piece}
use Rattle.responses.specs.declared.Reader.{Reader}
use Rattle.responses.specs.declared.Unread.{Unread}

-- where a file begins
abbrev pub started : Progress
started = record { point = begun; used = 0; lines = 0; held = 0 }

-- a state: its point as it is, its fields in the store
pub record InStore (p : Progress) (store : List ℕ) (s : State) : Type 0 where
  pub point : p.point ≡ s.point
  pub fields : take p.used store ≡ stored s.fields

-- each line so far could be read
abbrev pub all_read : Result (Unit {0}) Unread
all_read = Ok tt

-- where each line could be read the reader is in a state, else it is stopped
abbrev pub NowIn : {T E : Type 0} → Result T E → Reader → Now → Type 0
NowIn (Ok x) r (reading s) = InStore r.progress r.store s
NowIn (Ok x) r stopped = ⊥
NowIn (Err e) r (reading s) = ⊥
NowIn (Err e) r stopped = Unit {0}

-- line n was taken in a state: its report is written, and the store holds what is read next
pub record Told {T E : Type 0} (mechanism n : ℕ) (s : State) (line : List ℕ) (old : Written) (read : Result T E) (r : Reader)
    (text : Written) : Type 0 where
  pub wrote : text ≡ old then line_for mechanism n (takes s (says line))
  pub now : NowIn read r (after (takes s (says line)))

abbrev pub Tells : {T E : Type 0} → Reader → (line : List ℕ) (old : Written) → Result T E → Reader → (text : Written) → Type 0
Tells was line old read r text =
    (s : State) → InStore was.progress was.store s → Told was.mechanism (was.progress.lines + 1) s line old read r text

-- what is left of the report, for every rest of the file
abbrev pub left : Reader → Now → (line window rest : List ℕ) → List ℕ
left r now line window rest = report r.mechanism r.progress.lines (lines_from line (window ++ rest)) now

-- behind a piece: what is read next, the line that has begun, and that nothing of the report is lost
pub record Behind (was : Reader) (before : Now) (line window old : List ℕ) (p : Piece) (r : Reader) (text : List ℕ) : Type 0 where
  pub now : Now
  pub begun : List ℕ
  pub state : NowIn p.read r now
  pub held : Holds r.line r.progress.held begun
  pub is : (rest : List ℕ) → old ++ left was before line window rest ≡ text ++ left r now begun p.rest.now rest

-- whatever was read before, and whether it could be
abbrev pub Reports : Result (Unit {0}) Unread → Reader → (window old : List ℕ) → Piece → Reader → (text : List ℕ) → Type 0
Reports read was window old p r text =
    (before : Now) (line : List ℕ) → NowIn read was before → Holds was.line was.progress.held line
    → Behind was before line window old p r text

-- the end of the file
abbrev pub Ends : Reader → (text : List ℕ) → Type 0
Ends was text =
    (s : State) (line : List ℕ) → InStore was.progress was.store s → Holds was.line was.progress.held line
    → report was.mechanism was.progress.lines (lines_from line []) (reading s) ≡ text

-- what is left of a window
abbrev pub IsLeft : (window rest : List ℕ) → Type 0
IsLeft window rest = (n : ℕ) × (n ≤ length window) × (rest ≡ drop n window)
