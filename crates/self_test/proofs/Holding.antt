-- A case holds as the calls of the code tell: each call's promise gives the bytes that the next one begins with. Assumes nothing.
use Prim.Native.Nat.{ℕ, suc, ◌+◌}
use mathlib.Core.Path.{◌≡◌, refl, sym, ap, ap₂, ◌∙◌}
use mathlib.Core.Bool.{Bool, true, false, not, ◌&&◌, cond}
use mathlib.Core.List.{List, [], ◌∷◌}
use native.Mathlib.Omega.{arith}
use borrow.Author.Tests.{ne_eqb}
use lib.Dec.{eqb, ltb}
use lib.ListN.{length, replicate}
use Rattle.slots.specs.Sizes.{table_size}
use Rattle.table.specs.Calls.{Call, lent}
use Rattle.std.specs.Prelude.{Result, Ok, Err, is_ok, Option, Some, None, map}
use Rattle.std.specs.List.{position_or_len}
use Rattle.reasons.specs.declared.Reason.{Reason}
use Rattle.reasons.specs.Numbers.{number_of}
use Rattle.reasons.proofs.Numbers.{number-some}
use Rattle.table.specs.declared.answers.Served.{Served}
use Rattle.table.specs.OnBytes.{Done, told_of, in_bytes}
use Rattle.same.specs.Same.{same}
use Rattle.self_test.specs.Cases.{Case, ◌then◌gives◌, ◌then◌refuses◌, after, holds, first_from}

abbrev fresh : List ℕ
fresh = replicate table_size 0

-- calls lead from bytes of a table to others, each by its promise
pub data Leads : (s : List ℕ) → List Call → (u : List ℕ) → Type 0 where
  none : {s : List ℕ} → Leads s [] s
  more : {s u : List ℕ} {c : Call} {cs : List Call} {d : Done} → d ≡ in_bytes c s → Leads d.table cs u → Leads s (c ∷ cs) u

leads_after : {s u : List ℕ} {cs : List Call} → Leads s cs u → u ≡ after s cs
leads_after none = refl
leads_after (more {cs = cs} e l) = leads_after l ∙ ap (λ (d : Done). after d.table cs) e

pub ok_told : (r : Result Served Reason) → is_ok r ≡ eqb (told_of r).number 0
ok_told (Ok served) = refl
ok_told (Err reason) = sym (ne_eqb (number_of reason) 0 (number-some reason))

-- the tests of the code, on what the last call handed back
module _ {before : List Call} {s : List ℕ} {d : Done} (last : Call) (calls : Leads fresh before s) (called : d ≡ in_bytes last s) where
  outcome : d ≡ in_bytes last (after fresh before)
  outcome = called ∙ ap (in_bytes last) (leads_after calls)

  pub gives-bytes : (bytes : List ℕ) {served equal : Bool} → served ≡ eqb d.told.number 0 → equal ≡ same d.output bytes
      → (served && equal) ≡ holds (before then last gives bytes)
  unfolding holds
  gives-bytes bytes n e =
      ap₂ (λ b g. b && g) n e ∙ ap (λ (d : Done). eqb d.told.number 0 && same d.output bytes) outcome

  pub refuses_it : (number : ℕ) {refused kept equal : Bool} → refused ≡ eqb d.told.number number → kept ≡ same d.table s
      → equal ≡ same d.output (lent last)
      → (refused && kept && equal) ≡ holds (before then last refuses number)
  unfolding holds
  refuses_it number {refused} {kept} {equal} n k e =
      ap (λ b. b && kept && equal) n ∙
      ap₂ (λ b g. eqb d.told.number number && b && g) k e ∙
      ap₂ (λ (d : Done) (s : List ℕ). eqb d.told.number number && same d.table s && same d.output (lent last))
      outcome (leads_after calls)

-- the place of the first case that does not hold, and the number that is answered there
abbrev pub place : List Bool → Option ℕ
place held = cond (ltb (position_or_len not held) (length held)) (Some (position_or_len not held)) None

abbrev pub number_at : (first : ℕ) → Option ℕ → ℕ
number_at first None = 0
number_at first (Some at) = at + first

pub number_is : (first : ℕ) (cs : List Case) → number_at first (place (map holds cs)) ≡ first_from first cs
unfolding first_from
number_is first [] = refl
number_is first (c ∷ cs) = go (holds c) (number_is (suc first) cs)
  where
    go : (is : Bool) → number_at (suc first) (place (map holds cs)) ≡ first_from (suc first) cs
        → number_at first (place (is ∷ map holds cs)) ≡ cond is (first_from (suc first) cs) first
    go true later = grind (arith, later)
    go false later = grind arith
