-- A case is run from a fresh table, which stands in 2,148 bytes, all zero: opened at strength 0 with an interval of 2^48, then its
-- steps under the handle that the opening gave; draws ask strength 0. One output, of as many bytes as were returned, is lent to each
-- draw in turn, zeros at first. The case passes if every call is served and the last draw gives what was returned.
use Rattle.std.specs.Prelude.{ℕ, ◌^◌, Bool, false, cond, List, [], ◌∷◌, eqb, length, replicate}
use Rattle.std.proofs.Math.Option.{Option, none, some}
use Rattle.slots.specs.Sizes.{table_size}
use Rattle.table.specs.Calls as calls
use Rattle.table.specs.Calls.{Call, opens}
use Rattle.table.specs.OnBytes.{Done, in_bytes}
use Rattle.same.specs.Same.{same}
use Rattle.rsp_case.specs.Cases.{Step, draws, fresh_draws, reseeds, Case}

-- a step's call, and what the output holds behind it
abbrev pub call_of : (handle : ℕ) (out : List ℕ) → Step → Call
call_of handle out (draws additional) = calls.draws handle 0 out additional
call_of handle out (fresh_draws entropy additional) = calls.fresh_draws handle 0 out entropy additional
call_of handle out (reseeds entropy additional) = calls.reseeds handle entropy additional

abbrev pub output_after : (out : List ℕ) → Step → Done → List ℕ
output_after out (draws additional) d = d.output
output_after out (fresh_draws entropy additional) d = d.output
output_after out (reseeds entropy additional) d = out

abbrev pub answered : (handle : ℕ) (table out : List ℕ) → Step → Done
answered handle table out s = in_bytes (call_of handle out s) table

-- what the output holds behind all of the steps, if each was served
unfoldable pub output_of : (handle : ℕ) (table out : List ℕ) → List Step → Option (List ℕ)
output_of handle table out [] = some out
output_of handle table out (s ∷ steps) =
    let d = answered handle table out s in
    cond (eqb d.told.number 0) (output_of handle d.table (output_after out s d) steps) none

abbrev pub gave : Option (List ℕ) → (returned : List ℕ) → Bool
gave none returned = false
gave (some out) returned = same out returned

abbrev pub opening_of : (mechanism : ℕ) (fresh : Bool) → Case → Call
opening_of mechanism fresh c = opens mechanism 0 (2 ^ 48) fresh c.entropy c.nonce c.personalization

unfoldable pub passes : (mechanism : ℕ) (fresh : Bool) → Case → Bool
passes mechanism fresh c =
    let d = in_bytes (opening_of mechanism fresh c) (replicate table_size 0) in
    cond (eqb d.told.number 0)
    (gave (output_of d.told.value d.table (replicate (length c.returned) 0) c.steps) c.returned) false
