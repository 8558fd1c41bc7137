-- What fields take, counted field by field, and where they stand while they are read. Assumes nothing.
use Prim.Native.Nat.{ℕ, ◌+◌, ◌≤◌}
use mathlib.Core.Path.{◌≡◌, sym, ap, ◌∙◌}
use mathlib.Core.Bool.{true}
use mathlib.Core.List.{List, [], ◌∷◌, ◌++◌}
use native.Mathlib.Nat.{zero-add, add_assoc}
use native.Mathlib.Omega.{arith}
use lib.ListN.{length, length-append}
use Rattle.rsp_case.specs.Cases.{Field, ◌is◌}
use Rattle.rsp_case.specs.Store.{stored}
use Rattle.rsp_case.specs.Heads.{length_for, fits}
use Rattle.rsp_case.specs.Reading.{State}
use Rattle.rsp_case.specs.declared.heads.Heads.{Heads}

abbrev pub size : List Field → ℕ
size fields = length (stored fields)

pub size-more : (f : Field) (fields : List Field) → size (f ∷ fields) ≡ 3 + length f.value + size fields
unfolding stored
size-more f fields =
    let long = length-append f.value (stored fields) in
    omega (arith, long)

size_both : (fields others : List Field) → size (fields ++ others) ≡ size fields + size others
unfolding stored
size_both [] others = sym (zero-add (size others))
size_both (f ∷ fields) others =
    size-more f (fields ++ others) ∙
    ap (λ n. 3 + length f.value + n) (size_both fields others) ∙
    sym (add_assoc (3 + length f.value) (size fields) (size others)) ∙
    ap (λ n. n + size others) (sym (size-more f fields))

pub size-last : (fields : List Field) (f : Field) → size (fields ++ (f ∷ [])) ≡ size fields + 3 + length f.value
unfolding stored
size-last fields f = omega (arith, size_both fields (f ∷ []), size-more f [])

-- with what was returned behind them
abbrev pub returning : (fields : List Field) (value : List ℕ) → List Field
returning fields value = fields ++ ((5 is value) ∷ [])

-- inside a case
abbrev pub inside : Heads → (number last : ℕ) → List Field → State
inside h number last fields = record { point = record { heads = h; last = last; number = number }; fields = fields }

-- a field is as long as it should be, and has room
pub record Good (h : Heads) (kept : List Field) (name : ℕ) (value : List ℕ) : Type 0 where
  pub fit : fits (length_for h name) (length value) ≡ true
  pub room : size kept + 3 + length value ≤ 65536
