-- A case as text: the line of its COUNT, one for each field, and one for what was returned, with no line between them.
use Rattle.std.specs.Prelude.{ℕ, ◌≤◌, ◌<◌, ◌^◌, List, [], ◌∷◌, map, length}
use Rattle.standard.specs.Strings.{Bytes}
use Rattle.rsp_line.specs.Written.{field_line, count_line}
use Rattle.rsp_case.specs.Cases.{Case, Field}
use Rattle.rsp_case.specs.Written.{all_fields}

abbrev pub case_text : Case → List (List ℕ)
case_text c = count_line c.number ∷ map (λ f. field_line f.name f.value) (all_fields c)

-- each string is of bytes, and short enough for a line of 4,096 characters
pub data OnLines : List Field → Type 0 where
  no_field : OnLines []
  one_more : {f : Field} {fields : List Field} → Bytes f.value → length (field_line f.name f.value) ≤ 4096 → OnLines fields
      → OnLines (f ∷ fields)

pub record Writable (c : Case) : Type 0 where
  pub number : c.number < 2 ^ 64
  pub strings : OnLines (all_fields c)
