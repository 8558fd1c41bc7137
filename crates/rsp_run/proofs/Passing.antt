-- From the opening and the steps to whether the case passes. Assumes nothing.
use Rattle.std.proofs.Common.{ℕ, ◌≤◌, ◌≡◌, Bool, true, false, ◌&&◌, cond, List, [], length, take, drop, replicate, sym, ap, ap₂, ◌∙◌}
use Rattle.std.proofs.Common.{◌^◌, ne_eqb, Result, Ok, Err}
use Rattle.std.specs.Result.{is_ok}
use Rattle.reasons.specs.declared.Reason.{Reason}
use Rattle.reasons.specs.Numbers.{number_of}
use Rattle.reasons.proofs.Numbers.{number-some}
use Rattle.table.specs.Calls.{opens}
use Rattle.table.specs.OnBytes.{Done, told_of, in_bytes}
use Rattle.table.specs.declared.answers.Served.{Served}
use Rattle.std.proofs.Math.Seq.{drop-drop}
use Rattle.std.proofs.Math.Dec.{eqb}
use Rattle.std.proofs.lemmas.List.{take-replicate}
use Rattle.slots.specs.Sizes.{table_size}
use Rattle.same.specs.Same.{same}
use Rattle.rsp_case.specs.Cases.{Field, steps_of, first, case_of}
use Rattle.rsp_case.specs.Store.{stored}
use Rattle.rsp_run.specs.Run.{output_of, gave, passes}
use Rattle.rsp_run.specs.Places.{First}
use Rattle.rsp_run.specs.Walk.{opening_answered, Opens, Leaves, Gives}
use Rattle.rsp_run.specs.declared.Opened.{Opened}
use Rattle.rsp_run.specs.declared.field.Field as read

-- the first field's value and the bytes behind it
pub value-some : (f : read.Field) (fields : List Field) → First f fields
    → (f.value.now ≡ first fields) × (f.rest.now ≡ stored (drop 1 fields))
value-some f fields one = (sym (ap first one.are), one.rest ∙ sym (ap (λ l. stored (drop 1 l)) one.are))

pub value_none : (fields : List Field) → fields ≡ [] → ([] ≡ first fields) × ([] ≡ stored (drop 1 fields))
unfolding stored
value_none fields over = (sym (ap first over), sym (ap (λ l. stored (drop 1 l)) over))

-- the opening takes the values of three fields that were read one behind the other
pub three-read : (mechanism : ℕ) (fresh : Bool) (table : List ℕ) (fields : List Field) {e n u : List ℕ} → e ≡ first fields
    → n ≡ first (drop 1 fields) → u ≡ first (drop 1 (drop 1 fields))
    → in_bytes (opens mechanism 0 (2 ^ 48) fresh e n u) table ≡ opening_answered fields mechanism fresh table
three-read mechanism fresh table fields e-is n-is u-is = let two = drop-drop 1 1 fields in cc

-- what the steps leave, if each was served, compared with what was returned
pub steps_compared : {T : Type 0} (s : List ℕ) (handle : ℕ) (table out out' returned : List ℕ) (r : Result T Reason)
    → Leaves s handle table out r out' → Gives s handle table out returned (is_ok r && same out' returned)
steps_compared s handle table out out' returned (Ok x) leaves fields are = sym (ap (λ o. gave o returned) (leaves fields are))
steps_compared s handle table out out' returned (Err e) leaves fields are = sym (ap (λ o. gave o returned) (leaves fields are))

-- from the opening of a case
module _ (mechanism : ℕ) (fresh : Bool) (fields : List Field) (number : ℕ) (returned : List ℕ) where
  abbrev d : Done
  d = opening_answered fields mechanism fresh (replicate table_size 0)

  by_opening : (b : Bool) → eqb d.told.number 0 ≡ b
      → passes mechanism fresh (case_of number fields returned)
      ≡ cond b (gave (output_of d.told.value d.table (replicate (length returned) 0) (steps_of (drop 3 fields))) returned) false
  unfolding passes
  by_opening b is =
      ap
      (λ c. cond c (gave (output_of d.told.value d.table (replicate (length returned) 0) (steps_of (drop 3 fields))) returned) false)
      is

  module _ {o : Opened} {table : List ℕ} (opened : Opens fields d o table) where
    told_is : {r : Result Served Reason} → o.outcome ≡ r → d.told ≡ told_of r
    told_is outcome = ap (λ e. e.told) (sym opened.is) ∙ ap told_of outcome

    pub opening-refused : {e : Reason} → o.outcome ≡ Err e → false ≡ passes mechanism fresh (case_of number fields returned)
    opening-refused {e} refused =
        sym (by_opening false (ap (λ t. eqb t.number 0) (told_is refused) ∙ ne_eqb (number_of e) 0 (number-some e)))

    -- the front of the output, as long as what was returned, was lent
    pub opening-served : {s : Served} {given : Bool} (m : ℕ) → o.outcome ≡ Ok s → length returned ≤ m
        → given ≡ gave (output_of s.value table (take (length returned) (replicate m 0)) (steps_of (drop 3 fields))) returned
        → given ≡ passes mechanism fresh (case_of number fields returned)
    opening-served {s} m served few is =
        is ∙
        ap (λ out. gave (output_of s.value table out (steps_of (drop 3 fields))) returned) (take-replicate (length returned) m 0 few) ∙
        ap₂ (λ h t. gave (output_of h t (replicate (length returned) 0) (steps_of (drop 3 fields))) returned)
        (sym (ap (λ t. t.value) (told_is served))) (ap (λ e. e.table) opened.is) ∙
        sym (by_opening true (ap (λ t. eqb t.number 0) (told_is served)))
