-- What the output holds behind all of the steps is what it holds behind those that are left, from the table and the output of those
-- that were served. Assumes nothing.
use Rattle.std.proofs.Common.{ℕ, ◌≡◌, Bool, true, false, cond, List, [], sym, ap, ap₂, ◌∙◌, ne_eqb, Ok, Err}
use Rattle.std.proofs.Math.Option.{Option, none, some}
use Rattle.std.proofs.Math.Dec.{eqb}
use Rattle.rsp_case.specs.Cases.{Field, steps_of}
use Rattle.rsp_case.specs.Store.{stored}
use Rattle.rsp_run.specs.Run.{output_of}
use Rattle.rsp_run.specs.Walk.{Steps}
use Rattle.rsp_run.specs.declared.steps.Stepped.{Stepped}
use Rattle.table.specs.declared.answers.Served.{Served}
use Rattle.reasons.specs.declared.Reason.{Reason}
use Rattle.reasons.specs.Numbers.{number_of, refused_by}
use Rattle.reasons.proofs.Numbers.{number-some}

pub record Left (handle : ℕ) (all : Option (List ℕ)) (s table out : List ℕ) : Type 0 where
  pub fields : List Field
  pub hold : s ≡ stored fields
  pub is : all ≡ output_of handle table out (steps_of fields)

module _ {handle : ℕ} {all : Option (List ℕ)} {s table out : List ℕ} (left : Left handle all s table out) where
  pub none_left : left.fields ≡ [] → all ≡ some out
  unfolding steps_of output_of
  none_left over = left.is ∙ ap (λ l. output_of handle table out (steps_of l)) over

  module _ {r : Stepped} {table' out' : List ℕ} (made : Steps left.fields handle table out r table' out') where
    by_number : (b : Bool) → eqb (refused_by r.outcome) 0 ≡ b → all ≡ cond b (output_of handle table' out' (steps_of made.left)) none
    unfolding output_of
    by_number b is =
        let steps = steps_of made.left in
        left.is ∙
        ap (output_of handle table out) made.steps ∙
        ap₂ (λ n o. cond (eqb n 0) o none) (sym made.made.says)
        (sym (ap₂ (λ t o. output_of handle t o steps) made.made.moves made.made.gives)) ∙
        ap (λ c. cond c (output_of handle table' out' steps) none) is

    pub refused-one : {e : Reason} → r.outcome ≡ Err e → all ≡ none
    refused-one {e} refused = by_number false (ap (λ o. eqb (refused_by o) 0) refused ∙ ne_eqb (number_of e) 0 (number-some e))

    pub served-one : {s : Served} → r.outcome ≡ Ok s → Left handle all r.rest.now table' out'
    served-one served =
        record { fields = made.left; hold = made.stand; is = by_number true (ap (λ o. eqb (refused_by o) 0) served) }
