-- Which field stands first in the bytes that hold a case's fields.
use Rattle.std.specs.Prelude.{ℕ, ◌+◌, ◌≤◌, ◌≡◌, List, [], ◌∷◌, length, take, drop, Option, None, Some}
use Rattle.rsp_case.specs.Cases.{Field, ◌is◌}
use Rattle.rsp_case.specs.Store.{stored}
use Rattle.rsp_run.specs.declared.field.Field as read

-- the field is a part of the bytes, whatever they hold: its value stands behind a header of three, and the rest behind the value
pub record Inside (s : List ℕ) (f : read.Field) : Type 0 where
  pub end : 3 + length f.value.now ≤ length s
  pub value : f.value.now ≡ take (length f.value.now) (drop 3 s)
  pub rest : f.rest.now ≡ drop (3 + length f.value.now) s

-- the field stands first, and the bytes behind it hold the others
pub record First (f : read.Field) (fields : List Field) : Type 0 where
  pub others : List Field
  pub are : fields ≡ (f.name is f.value.now) ∷ others
  pub rest : f.rest.now ≡ stored others

abbrev pub FirstOf : Option read.Field → List Field → Type 0
FirstOf None fields = fields ≡ []
FirstOf (Some f) fields = First f fields

-- whichever fields the bytes hold, this is the first
abbrev pub Reads : (s : List ℕ) → Option read.Field → Type 0
Reads s r = (fields : List Field) → s ≡ stored fields → FirstOf r fields
