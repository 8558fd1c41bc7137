-- How a case is written: what its lines say, which cases can be read, and what it means that lines, taken in turn, are read as a case.
use Rattle.std.specs.Prelude.{ℕ, ◌≤◌, ◌≡◌, Bool, true, false, ◌&&◌, List, [], ◌∷◌, ◌++◌, map, length}
use Rattle.rsp_line.specs.Lines.{Says, nothing, hash, resists, bits, counts, gives}
use Rattle.rsp_line.specs.Names.{returned_bits}
use Rattle.rsp_case.specs.Cases.{Step, draws, fresh_draws, reseeds, Case, Field, ◌is◌, fields_of}
use Rattle.rsp_case.specs.Store.{stored}
use Rattle.rsp_case.specs.Heads.{heads_under, with_fresh, with_length, length_for, fits}
use Rattle.rsp_case.specs.Reading.{State, takes, goes, whole}
use Rattle.rsp_case.specs.declared.heads.Heads.{Heads}

-- ---- what its lines say: COUNT, its fields, and what was returned

abbrev pub all_fields : Case → List Field
all_fields c = fields_of c ++ ((returned_bits is c.returned) ∷ [])

abbrev pub fields_said : List Field → List Says
fields_said fields = map (λ f. gives f.name f.value) fields

abbrev pub case_said : Case → List Says
case_said c = counts c.number ∷ fields_said (all_fields c)

-- headings that stand before it, and what all headings have said then
pub data Headings : Heads → List Says → Heads → Type 0 where
  none : {h : Heads} → Headings h [] h
  of_hash : {h h' : Heads} {said : List Says} {ours : Bool} → Headings (heads_under ours) said h' → Headings h (hash ours ∷ said) h'
  of_fresh : {h h' : Heads} {said : List Says} {b : Bool} → Headings (with_fresh h b) said h' → Headings h (resists b ∷ said) h'
  of_length : {h h' : Heads} {said : List Says} {name n : ℕ} → Headings (with_length h name n) said h'
      → Headings h (bits name n ∷ said) h'

-- lines that say these in turn: the last line says the last of them, and before it any line may say nothing
pub data Lines : (said lines : List Says) → Type 0 where
  final : {x : Says} → Lines (x ∷ []) (x ∷ [])
  line : {x : Says} {said lines : List Says} → Lines said lines → Lines (x ∷ said) (x ∷ lines)
  blank : {said lines : List Says} → Lines said lines → Lines said (nothing ∷ lines)

-- ---- which cases can be read: the last step is a draw, each field is as long as its heading says, and there is room

abbrev pub is_draw : Step → Bool
is_draw (draws additional) = true
is_draw (fresh_draws entropy additional) = true
is_draw (reseeds entropy additional) = false

-- whether the last step is a draw; where there is none, whether the one before them was
unfoldable pub ends_drawn : (before : Bool) → List Step → Bool
ends_drawn before [] = before
ends_drawn before (s ∷ steps) = ends_drawn (is_draw s) steps

unfoldable pub all_fit : Heads → List Field → Bool
all_fit h [] = true
all_fit h (f ∷ fields) = fits (length_for h f.name) (length f.value) && all_fit h fields

pub record Readable (h : Heads) (c : Case) : Type 0 where
  pub drawn : ends_drawn false c.steps ≡ true
  pub fit : all_fit h (all_fields c) ≡ true
  pub room : length (stored (all_fields c)) ≤ 65536

-- ---- both together: the lines of a case, with headings before it or without, under our hash

pub record CaseLines (h : Heads) (lines : List Says) (h' : Heads) (c : Case) : Type 0 where
  pub headings : List Says
  pub heads : Headings h headings h'
  pub known : h'.known ≡ true
  pub ours : h'.ours ≡ true
  pub readable : Readable h' c
  pub said : Lines (headings ++ case_said c) lines

-- ---- reading: from a state each line goes on to the next, and the last makes the case whole

pub data ReadAs (c : Case) (end : State) : State → (lines : List Says) → Type 0 where
  ends : {s : State} {x : Says} → takes s x ≡ whole end c → ReadAs c end s (x ∷ [])
  goes_on : {s t : State} {x : Says} {lines : List Says} → takes s x ≡ goes t → ReadAs c end t lines → ReadAs c end s (x ∷ lines)

-- between two cases nothing is kept
abbrev pub between : Heads → (number : ℕ) → State
between h number = record { point = record { heads = h; last = 0; number = number }; fields = [] }
