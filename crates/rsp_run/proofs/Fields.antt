-- The front of the bytes that hold some fields. Assumes nothing.
use Rattle.std.proofs.Common.{ℕ, ◌+◌, ◌-◌, ◌*◌, ◌<◌, ◌≤◌, ◌≡◌, List, [], ◌∷◌, ◌++◌, length, take, drop, get_or, refl, sym, ap, ap₂, ◌∙◌}
use Rattle.std.proofs.Common.{arith, length-append, Bor}
use Rattle.std.proofs.Math.Seq.{take_at, drop_at}
use Rattle.std.proofs.lemmas.Slice.{between_to_end}
use Rattle.rsp_case.specs.Cases.{Field, ◌is◌}
use Rattle.rsp_case.specs.Store.{stored}
use Rattle.rsp_run.specs.Places.{First}

pub no_header : (s : List ℕ) → length s < 3 → (fields : List Field) → s ≡ stored fields → fields ≡ []
unfolding stored
no_header s few [] are = refl
no_header s few (f ∷ fields) are = absurd (omega (arith, ap length are))

-- n is what the two bytes behind the name say
module _ (s : List ℕ) (n : ℕ) (says : n ≡ get_or s 1 0 * 256 + get_or s 2 0) where
  -- what stands behind them
  abbrev behind : List ℕ
  behind = take (length s - 3) (drop 3 s)

  -- the bytes hold a field and others
  module _ (f : Field) (fields : List Field) (are : s ≡ stored (f ∷ fields)) where
    then : behind ≡ f.value ++ stored fields
    unfolding stored
    then = between_to_end s 3 (length s) (omega arith) ∙ ap (drop 3) are

    size : n ≡ length f.value
    unfolding stored
    size = omega (arith, says, ap (λ l. get_or l 1 0) are, ap (λ l. get_or l 2 0) are)

  pub no_value : length behind < n → (fields : List Field) → s ≡ stored fields → fields ≡ []
  no_value few [] are = refl
  no_value few (f ∷ fields) are =
      absurd (omega (arith, few, size f fields are, ap length (then f fields are), length-append f.value (stored fields)))

  pub field_first : (v r : Bor (List ℕ)) → 3 ≤ length s → v.now ≡ take n behind → r.now ≡ drop n behind
      → (fields : List Field) → s ≡ stored fields → First (record { name = get_or s 0 0; value = v; rest = r }) fields
  unfolding stored
  field_first v r enough v-is r-is [] are = absurd (omega (arith, ap length are))
  field_first v r enough v-is r-is (f ∷ fields) are =
      let long = sym (size f fields are) in
      record {
        others = fields;
        are =
            ap₂ (λ n v. (n is v) ∷ fields) (sym (ap (λ l. get_or l 0 0) are))
            (sym (v-is ∙ ap (take n) (then f fields are) ∙ take_at f.value (stored fields) n long));
        rest = r-is ∙ ap (drop n) (then f fields are) ∙ drop_at f.value (stored fields) n long;
      }
