-- The first step of a case's fields is told by the names of the first two. Assumes nothing.
use Rattle.std.proofs.Common.{ℕ, ◌≡◌, ◌≢◌, Bool, true, false, cond, List, [], ◌∷◌, refl, sym, ap, ap₂, ◌∙◌, eq-eqb, ne_eqb}
use Rattle.std.proofs.Common.{Bor, Result, Ok, Err}
use Rattle.std.proofs.Math.Dec.{eqb}
use Rattle.rsp_line.specs.Names.{entropy_input_reseed, entropy_input_pr}
use Rattle.rsp_case.specs.Cases.{Step, draws, fresh_draws, reseeds, Field, ◌is◌, steps_of}
use Rattle.rsp_case.specs.Store.{stored}
use Rattle.reasons.specs.declared.Reason.{Reason}
use Rattle.reasons.specs.Numbers.{refused_by}
use Rattle.table.specs.OnBytes.{leaving, told_of}
use Rattle.table.specs.declared.answers.Served.{Served}
use Rattle.rsp_run.specs.Places.{First}
use Rattle.rsp_run.specs.Run.{output_after, answered}
use Rattle.rsp_run.specs.Walk.{Steps}
use Rattle.rsp_run.specs.declared.field.Field as read

module _ (f : read.Field) (fields : List Field) (one : First f fields) where
  -- another field stands behind it
  module _ (g : read.Field) (two : First g one.others) where
    by_names : (reseeding resisting : Bool) → eqb f.name entropy_input_reseed ≡ reseeding → eqb g.name entropy_input_pr ≡ resisting
        → steps_of fields
        ≡ cond reseeding (reseeds f.value.now g.value.now ∷ steps_of two.others)
        (cond resisting (fresh_draws g.value.now f.value.now ∷ steps_of two.others) (draws f.value.now ∷ steps_of one.others))
    unfolding steps_of
    by_names reseeding resisting is-reseeding is-resisting =
        let leads : (r n : Bool) (l : List Field) → List Step = λ r n l.
        cond r (reseeds f.value.now g.value.now ∷ steps_of two.others)
        (cond n (fresh_draws g.value.now f.value.now ∷ steps_of two.others) (draws f.value.now ∷ steps_of l))
        in
        ap steps_of (one.are ∙ ap (λ l. (f.name is f.value.now) ∷ l) two.are) ∙
        ap₂ (λ r n. leads r n ((g.name is g.value.now) ∷ two.others)) is-reseeding is-resisting ∙
        ap (leads reseeding resisting) (sym two.are)

    pub reseed_next : f.name ≡ entropy_input_reseed → steps_of fields ≡ reseeds f.value.now g.value.now ∷ steps_of two.others
    reseed_next named = by_names true _ (eq-eqb _ _ named) refl

    pub fresh_draw_next : f.name ≢ entropy_input_reseed → g.name ≡ entropy_input_pr
        → steps_of fields ≡ fresh_draws g.value.now f.value.now ∷ steps_of two.others
    fresh_draw_next not named = by_names false true (ne_eqb _ _ not) (eq-eqb _ _ named)

    pub draw-next : f.name ≢ entropy_input_reseed → g.name ≢ entropy_input_pr → steps_of fields ≡ draws f.value.now ∷ steps_of one.others
    draw-next not other = by_names false false (ne_eqb _ _ not) (ne_eqb _ _ other)

  pub last_draw : one.others ≡ [] → steps_of fields ≡ draws f.value.now ∷ steps_of one.others
  unfolding steps_of
  last_draw over =
      ap steps_of (one.are ∙ ap (λ l. (f.name is f.value.now) ∷ l) over) ∙ ap (λ l. draws f.value.now ∷ steps_of l) (sym over)

number_told : (r : Result Served Reason) → refused_by r ≡ (told_of r).number
number_told (Ok s) = refl
number_told (Err e) = refl

-- the first step's call was answered as the step's is, and the bytes behind it are left
pub made-step : {fields : List Field} {handle : ℕ} {table out table' o : List ℕ} (step : Step) (left : List Field) (rest : Bor (List ℕ))
    (r : Result Served Reason) → steps_of fields ≡ step ∷ steps_of left → rest.now ≡ stored left
    → leaving (told_of r) table' o ≡ answered handle table out step
    → Steps fields handle table out (record { outcome = r; rest = rest }) table' (output_after out step (leaving (told_of r) table' o))
made-step {out} step left rest r first stand same =
    record {
      step = step;
      left = left;
      steps = first;
      made =
          record {
            says = number_told r ∙ ap (λ d. d.told.number) same;
            moves = ap (λ d. d.table) same;
            gives = ap (output_after out step) same;
          };
      stand = stand;
    }
