-- What holds while a file is read.
use Rattle.std.specs.Prelude.{ℕ, ◌^◌, ◌≤◌, ◌≡◌, List, ◌++◌, Result}
use Rattle.file_lines.specs.Held.{Holds}
use Rattle.responses.specs.Report.{Now}
use Rattle.responses.specs.Pieces.{NowIn, left}
use Rattle.responses.specs.declared.Reader.{Reader}
use Rattle.responses.specs.declared.Unread.{Unread}

abbrev pub window_size : ℕ
window_size = 65536

-- between two pieces lines can be counted on
abbrev pub Going : Reader → Type 0
Going r = r.progress.lines ≤ 2 ^ 63

-- where some of the bytes that were read are left, and each line could be read or one could not: what was written and the report on them
-- and the rest are the report on all, whatever the rest is
pub record Onward (was : Reader) (before : Now) (line bytes more : List ℕ) (read : Result (Unit {0}) Unread) (r : Reader) : Type 0 where
  pub written : List ℕ
  pub now : Now
  pub begun : List ℕ
  pub state : NowIn read r now
  pub held : Holds r.line r.progress.held begun
  pub is : (rest : List ℕ) → left was before line bytes rest ≡ written ++ left r now begun more rest

-- whatever was read before, and whether it could be
abbrev pub GoesOn : Result (Unit {0}) Unread → Reader → (bytes more : List ℕ) → Result (Unit {0}) Unread → Reader → Type 0
GoesOn first was bytes more read r =
    (before : Now) (line : List ℕ) → NowIn first was before → Holds was.line was.progress.held line
    → Onward was before line bytes more read r
