-- A file's lines. A line ends with LF (10), and a CR (13) directly before it is of the end too; the last line may lack its end.
use Rattle.std.specs.Prelude.{ℕ, ◌-◌, cond, List, [], ◌∷◌, ◌++◌, eqb, length, take, get_or}

-- the characters before LF that are not of the end
unfoldable pub text_end : List ℕ → ℕ
text_end line = cond (eqb (get_or line (length line - 1) 0) 13) (length line - 1) (length line)

abbrev pub ended : List ℕ → List ℕ
ended line = take (text_end line) line

-- the last line, if anything stands on it
abbrev pub unended : List ℕ → List (List ℕ)
unended [] = []
unended (c ∷ line) = (c ∷ line) ∷ []

-- behind a line's beginning
unfoldable pub lines_from : (line text : List ℕ) → List (List ℕ)
lines_from line [] = unended line
lines_from line (c ∷ text) = cond (eqb c 10) (ended line ∷ lines_from [] text) (lines_from (line ++ (c ∷ [])) text)

abbrev pub lines_of : (text : List ℕ) → List (List ℕ)
lines_of text = lines_from [] text
