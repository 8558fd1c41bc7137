-- What is promised of a line that is held in a buffer while the window moves on: one of fewer than 4,098 characters whole, of a longer
-- one that it is longer.
use Rattle.std.specs.Prelude.{ℕ, ◌≤◌, ◌<◌, ◌≡◌, Bool, true, false, List, [], ◌∷◌, ◌++◌, length, take, drop, unwrap_or}
use Rattle.file_lines.specs.Lines.{ended, lines_from}
use Rattle.file_lines.specs.declared.Held as code

abbrev pub line_size : ℕ
line_size = 4098

-- where the window goes on: behind the line's end, or at its own
abbrev pub next_of : (window : List ℕ) → code.Held → ℕ
next_of window h = unwrap_or h.next (length window)

pub record Holds (buffer : List ℕ) (held : ℕ) (line : List ℕ) : Type 0 where
  pub short : held < line_size → take held buffer ≡ line
  pub long : line_size ≤ held → line_size ≤ length line

-- the lines of any text that goes on behind the window
abbrev pub Onward : (window : List ℕ) (from : ℕ) (l : List ℕ) (next : ℕ) (now : List ℕ) (is_end : Bool) → Type 0
Onward window from l next now true =
    (rest : List ℕ) → lines_from l (drop from window ++ rest) ≡ ended now ∷ lines_from [] (drop next window ++ rest)
Onward window from l next now false =
    (rest : List ℕ) → lines_from l (drop from window ++ rest) ≡ lines_from now (drop next window ++ rest)

-- from l on, with the window from a place on: the line has become `now`
pub record Went (window : List ℕ) (from : ℕ) (l : List ℕ) (next : ℕ) (is_end : Bool) (buffer : List ℕ) (held : ℕ) : Type 0 where
  pub now : List ℕ
  pub holds : Holds buffer held now
  pub onward : Onward window from l next now is_end

-- whatever line was held before
abbrev pub HeldOn : (window : List ℕ) (from : ℕ) (old : List ℕ) (held : ℕ) (next : ℕ) (is_end : Bool) (new : List ℕ) (held' : ℕ) → Type 0
HeldOn window from old held next is_end new held' = (l : List ℕ) → Holds old held l → Went window from l next is_end new held'
