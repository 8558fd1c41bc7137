-- What the functions promise on the way: whichever fields the bytes hold, the opening and the steps are theirs.
use Rattle.std.specs.Prelude.{ℕ, ◌^◌, ◌≡◌, Bool, cond, List, [], ◌∷◌, drop, Result}
use Rattle.std.proofs.Math.Option.{none, some}
use Rattle.std.specs.Result.{is_ok}
use Rattle.reasons.specs.declared.Reason.{Reason}
use Rattle.reasons.specs.Numbers.{refused_by}
use Rattle.table.specs.Calls.{opens}
use Rattle.table.specs.OnBytes.{Done, leaving, told_of, in_bytes}
use Rattle.rsp_case.specs.Cases.{Step, Field, steps_of, first}
use Rattle.rsp_case.specs.Store.{stored}
use Rattle.rsp_run.specs.Places.{First}
use Rattle.rsp_run.specs.Run.{output_after, answered, output_of, gave}
use Rattle.rsp_run.specs.declared.Opened.{Opened}
use Rattle.rsp_run.specs.declared.field.Field as read
use Rattle.rsp_run.specs.declared.steps.Stepped.{Stepped}

-- ---- the opening

-- it was made with the values of the first three fields
abbrev pub opening_answered : (fields : List Field) (mechanism : ℕ) (fresh : Bool) (table : List ℕ) → Done
opening_answered fields mechanism fresh table =
    in_bytes (opens mechanism 0 (2 ^ 48) fresh (first fields) (first (drop 1 fields)) (first (drop 2 fields))) table

-- what it was answered and the table that it left, served or refused; the bytes of the other fields are left
pub record Opens (fields : List Field) (d : Done) (r : Opened) (table' : List ℕ) : Type 0 where
  pub is : leaving (told_of r.outcome) table' [] ≡ d
  pub stand : r.rest.now ≡ stored (drop 3 fields)

abbrev pub OpensCase : (s : List ℕ) (mechanism : ℕ) (fresh : Bool) (table : List ℕ) → Opened → (table' : List ℕ) → Type 0
OpensCase s mechanism fresh table r table' =
    (fields : List Field) → s ≡ stored fields → Opens fields (opening_answered fields mechanism fresh table) r table'

-- ---- a step

-- its call was made: what it was answered, and the table and the output that it left
pub record Made (handle : ℕ) (table out : List ℕ) (step : Step) (number : ℕ) (table' out' : List ℕ) : Type 0 where
  pub says : number ≡ (answered handle table out step).told.number
  pub moves : table' ≡ (answered handle table out step).table
  pub gives : out' ≡ output_after out step (answered handle table out step)

-- the first step of these fields was made, served or refused, and the bytes hold the fields that are left behind it
pub record Steps (fields : List Field) (handle : ℕ) (table out : List ℕ) (r : Stepped) (table' out' : List ℕ) : Type 0 where
  pub step : Step
  pub left : List Field
  pub steps : steps_of fields ≡ step ∷ steps_of left
  pub made : Made handle table out step (refused_by r.outcome) table' out'
  pub stand : r.rest.now ≡ stored left

abbrev pub StepsFrom : read.Field → (handle : ℕ) (table out : List ℕ) → Stepped → (table' out' : List ℕ) → Type 0
StepsFrom f handle table out r table' out' = (fields : List Field) → First f fields → Steps fields handle table out r table' out'

-- ---- all of the steps

abbrev pub Leaves : {T : Type 0} (s : List ℕ) (handle : ℕ) (table out : List ℕ) → Result T Reason → (out' : List ℕ) → Type 0
Leaves s handle table out r out' =
    (fields : List Field) → s ≡ stored fields → output_of handle table out (steps_of fields) ≡ cond (is_ok r) (some out') none

abbrev pub Gives : (s : List ℕ) (handle : ℕ) (table out returned : List ℕ) → Bool → Type 0
Gives s handle table out returned r =
    (fields : List Field) → s ≡ stored fields → r ≡ gave (output_of handle table out (steps_of fields)) returned
