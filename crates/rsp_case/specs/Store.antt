-- The fields of a case in bytes, while it is read: each a name, the value's length in two bytes, the higher first, and the value.
use Rattle.std.specs.Prelude.{ℕ, ◌/◌, ◌%◌, List, [], ◌∷◌, ◌++◌, length}
use Rattle.rsp_case.specs.Cases.{Field}

abbrev pub field_bytes : Field → List ℕ
field_bytes f = f.name ∷ length f.value / 256 ∷ length f.value % 256 ∷ f.value

unfoldable pub stored : List Field → List ℕ
stored [] = []
stored (f ∷ fields) = field_bytes f ++ stored fields
