-- Demand 1: a call is refused by the first of its reasons that holds, and then changes nothing; where none holds it is served. What a
-- refusal keeps is said by the reason, so that a call which is served in part may give a number too. Assumes nothing.
use mathlib.Core.Path.{ap₂, ◌≡◌, refl, sym, ap, subst, ◌∙◌}
use mathlib.Core.Bool.{true, false}
use mathlib.Core.Logic.{◌⊎◌, inl, inr}
use mathlib.Core.List.{List, []}
use Prim.Native.Nat.{ℕ, suc}
use native.Mathlib.Omega.{arith}
use lib.ListN.{length}
use Rattle.slots.specs.Layout.{slot_at, last_serial, fresh_table, Table}
use Rattle.slots.specs.Handle.{lowest_free}
use Rattle.slots.proofs.Soundness.{sound-fresh}
use Rattle.reasons.specs.Reasons.{first_of, Reasons, NoneHolds, First, this, later}
use Rattle.reasons.proofs.FirstReason.{first-of, none_of}
use Rattle.table.specs.Answers.{Reply, stepped, installed}
use Rattle.reasons.specs.Checks.{open_reasons, reseed_reasons, draw_reasons, fresh_draw_reasons, close_reasons, inquire_reasons}
use Rattle.table.specs.Calls.{refusal, service, Call, opens, reseeds, draws, fresh_draws, closes, inquires, reply, reasons_of}
use Rattle.reasons.proofs.Decisions.{refusing, serving}
use Rattle.table.proofs.Exits.{first-refuses, none-refuses}
use Rattle.demands.proofs.Outcome.{Outcome, outcome}
use Rattle.demands.specs.Calls.{number, order}
use Rattle.demands.specs.Outcomes.{numbers_of, Answered, serves, refuses}
use Rattle.demands.specs.Handles.{Listed, here, there}

-- a call's reasons are document 01's, in its order
pub in_order : (t : Table) (c : Call) → numbers_of (reasons_of t c) ≡ order c
unfolding open_reasons reseed_reasons draw_reasons fresh_draw_reasons close_reasons inquire_reasons
in_order t (opens mechanism strength interval fresh entropy nonce personalization) = refl
in_order t (reseeds handle entropy additional) = refl
in_order t (draws handle strength out additional) = refl
in_order t (fresh_draws handle strength out entropy additional) = refl
in_order t (closes handle) = refl
in_order t (inquires handle) = refl

first_listed : {n : ℕ} {reasons : Reasons} → First n reasons → Listed n (numbers_of reasons)
first_listed this = here
first_listed (later f) = there (first_listed f)

never_next : {n : ℕ} → suc n ≡ 0 → ⊥
never_next h = omega arith

-- each of the six calls is answered 0 where it is served
pub service-number : (t : Table) (c : Call) → (service t c).answer.number ≡ 0
unfolding installed stepped
service-number t (opens mechanism strength interval fresh entropy nonce personalization) = refl
service-number t (reseeds handle entropy additional) = refl
service-number t (draws handle strength out additional) = refl
service-number t (fresh_draws handle strength out entropy additional) = refl
service-number t (closes handle) = refl
service-number t (inquires handle) = refl

module _ (t : Table) (c : Call) where
  pub answered : Answered t c (reply t c)
  answered = go (outcome t c)
    where
      go : {r : Reply} → Outcome t c r → Answered t c r
      go (refusing n f) = refuses n f refl
      go (serving none) = serves none refl

  -- refused by a reason: the table and the output are equal, and 0 blocks and value 0 are reported
  pub refusal_keeps : {n : ℕ} → First n (reasons_of t c) → reply t c ≡ refusal t c n
  refusal_keeps = first-refuses t c

  -- with the reason's number
  pub number-first : {n : ℕ} → First n (reasons_of t c) → number t c ≡ n
  number-first first = ap (λ (r : Reply). r.answer.number) (refusal_keeps first)

  -- and served where there is none
  pub none-serves : NoneHolds (reasons_of t c) → reply t c ≡ service t c
  none-serves = none-refuses t c

  -- the number is 0 whenever no reason holds, and only then
  pub none-served : NoneHolds (reasons_of t c) → number t c ≡ 0
  none-served none = ap (λ (r : Reply). r.answer.number) (none-serves none) ∙ service-number t c

  pub served-none : number t c ≡ 0 → NoneHolds (reasons_of t c)
  served-none h = go answered
    where
      go : Answered t c (reply t c) → NoneHolds (reasons_of t c)
      go (serves none is) = none
      go (refuses m f is) = absurd (never_next (sym (number-first f) ∙ h))

  pub served-is : number t c ≡ 0 → reply t c ≡ service t c
  served-is h = none-serves (served-none h)

  -- any other number is that of the first reason that holds
  pub answer-first : (n : ℕ) → number t c ≡ suc n → First (suc n) (reasons_of t c)
  answer-first n h = go answered
    where
      go : Answered t c (reply t c) → First (suc n) (reasons_of t c)
      go (serves none is) = absurd (never_next (sym h ∙ none-served none))
      go (refuses m f is) = subst (λ k. First k (reasons_of t c)) (sym (number-first f) ∙ h) f

  -- so it is 0 or one of document 01's for this call
  pub answer_listed : (number t c ≡ 0) ⊎ Listed (number t c) (order c)
  answer_listed = go answered
    where
      go : Answered t c (reply t c) → (number t c ≡ 0) ⊎ Listed (number t c) (order c)
      go (serves none is) = inl (none-served none)
      go (refuses m f is) =
          inr (subst (λ k. Listed k (order c)) (sym (number-first f)) (subst (Listed (suc m)) (in_order t c) (first_listed f)))

  -- in one equation: the first reason's number, and 0 where none holds
  pub number_is : number t c ≡ first_of (reasons_of t c)
  number_is = go answered
    where
      go : Answered t c (reply t c) → number t c ≡ first_of (reasons_of t c)
      go (serves none is) = none-served none ∙ sym (none_of (reasons_of t c) none)
      go (refuses m f is) = number-first f ∙ sym (first-of (reasons_of t c) f)

-- on the fresh table an opening is decided by its settings and lengths
pub fresh-answered : {e-length n-length k : ℕ} (mechanism asked : ℕ) (entropy nonce : List ℕ)
    → length entropy ≡ e-length → length nonce ≡ n-length
    → first_of (open_reasons true mechanism asked 1 e-length n-length 0 0 0) ≡ k
    → number fresh_table (opens mechanism asked 1 false entropy nonce []) ≡ k
unfolding lowest_free slot_at last_serial fresh_table
fresh-answered mechanism asked entropy nonce es ns is =
    number_is fresh_table (opens mechanism asked 1 false entropy nonce [])
    ∙ ap (λ b. first_of (open_reasons b mechanism asked 1 (length entropy) (length nonce) 0 0 0)) sound-fresh
    ∙ ap₂ (λ e n. first_of (open_reasons true mechanism asked 1 e n 0 0 0)) es ns ∙ is
