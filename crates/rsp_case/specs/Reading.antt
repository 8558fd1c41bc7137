-- What each line does to the case at hand. Between two lines stand the point and the fields kept so far.
use Rattle.std.specs.Prelude.{ℕ, List, [], ◌∷◌, ◌++◌, length}
use Rattle.rsp_line.specs.Lines as lines
use Rattle.rsp_line.specs.Lines.{Says, nothing, hash, resists, bits, counts, gives}
use Rattle.rsp_case.specs.Cases.{Field, ◌is◌, Case, case_of}
use Rattle.rsp_case.specs.Store.{stored}
use Rattle.rsp_case.specs.Heads.{no_heads, heads_under, with_fresh, with_length}
use Rattle.rsp_case.specs.Points.{Next, Goes, Keeps, Whole, PassedOver, Unread, headed, counted, given}
use Rattle.rsp_case.specs.declared.point.Point.{Point}

pub record State : Type 0 where
  pub point : Point
  pub fields : List Field

-- where a file begins
abbrev pub begun : Point
begun = record { heads = no_heads; last = 0; number = 0 }

abbrev pub beginning : State
beginning = record { point = begun; fields = [] }

-- where a line leads from a point, with so many bytes held of the case
abbrev pub next : Point → (held : ℕ) → Says → Next
next p held nothing = Goes p
next p held (hash ours) = headed p (heads_under ours)
next p held (resists b) = headed p (with_fresh p.heads b)
next p held (bits name n) = headed p (with_length p.heads name n)
next p held (counts n) = counted p n
next p held (gives name value) = given p held name (length value)
next p held lines.unread = Unread

-- the field that a line gives
abbrev pub field_in : Says → Field
field_in nothing = 0 is []
field_in (hash ours) = 0 is []
field_in (resists b) = 0 is []
field_in (bits name n) = 0 is []
field_in (counts n) = 0 is []
field_in (gives name value) = name is value
field_in lines.unread = 0 is []

-- a line was taken: the file goes on, a case is whole, one is passed over, or the line can't be read
pub data Taken : Type 0 where
  goes : State → Taken
  whole : State → Case → Taken
  passed_over : State → (number : ℕ) → Taken
  unread : Taken

abbrev pub taken_as : List Field → Field → Next → Taken
taken_as fields f (Goes p) = goes (record { point = p; fields = fields })
taken_as fields f (Keeps p) = goes (record { point = p; fields = fields ++ (f ∷ []) })
taken_as fields f (Whole p) = whole (record { point = p; fields = [] }) (case_of p.number fields f.value)
taken_as fields f (PassedOver p) = passed_over (record { point = p; fields = fields }) p.number
taken_as fields f Unread = unread

unfoldable pub takes : State → Says → Taken
takes s x = taken_as s.fields (field_in x) (next s.point (length (stored s.fields)) x)
