-- How a call comes out by its reasons: refused by the first that holds, or served where none does. Assumes that no reason has the
-- number 0.
use mathlib.Core.Path.{◌≡◌, refl, sym, ap, subst, ◌∙◌}
use mathlib.Core.Bool.{true, cond}
use Prim.Native.Nat.{ℕ, zero, suc}
use borrow.Author.Tests.{eq-eqb, ne_eqb}
use lib.Dec.{eqb, eqb-suc-zero}
use Rattle.reasons.specs.Reasons.{Reasons, first_of, NoneHolds, First, decided}
use Rattle.reasons.proofs.FirstReason.{numbered, none-holds, first-is, first-of, none_of, first_some}

module _ {A : Type 0} (reasons : Reasons) (refusal : ℕ → A) (service : A) (n : ℕ) (first : n ≡ first_of reasons) where
  pub refused_by : (n ≡ 0 → ⊥) → refusal n ≡ decided reasons refusal service
  unfolding decided
  refused_by some =
      ap (λ b. cond b service (refusal n)) (sym (ne_eqb n 0 some)) ∙ ap (λ k. cond (eqb k 0) service (refusal k)) first

  pub served_by : n ≡ 0 → service ≡ decided reasons refusal service
  unfolding decided
  served_by none =
      ap (λ b. cond b service (refusal n)) (sym (eq-eqb n 0 none)) ∙ ap (λ k. cond (eqb k 0) service (refusal k)) first

-- said by the reason that holds, not by the number
module _ {A : Type 0} (reasons : Reasons) (refusal : ℕ → A) (service : A) where
  pub first-refuses : numbered reasons ≡ true → {n : ℕ} → First n reasons → decided reasons refusal service ≡ refusal n
  first-refuses ok {n} f = sym (refused_by reasons refusal service n (sym (first-of reasons f)) (first_some reasons ok f))

  pub none-refuses : NoneHolds reasons → decided reasons refusal service ≡ service
  none-refuses none = sym (served_by reasons refusal service 0 (sym (none_of reasons none)) refl)

-- the two ways in which a call comes out
pub data Decision {A : Type 0} (reasons : Reasons) (refusal : ℕ → A) (service : A) : A → Type 0 where
  refusing : (n : ℕ) → First (suc n) reasons → Decision reasons refusal service (refusal (suc n))
  serving : NoneHolds reasons → Decision reasons refusal service service

pub decision : {A : Type 0} (reasons : Reasons) (refusal : ℕ → A) (service : A) → numbered reasons ≡ true
    → Decision reasons refusal service (decided reasons refusal service)
unfolding decided
decision reasons refusal service ok = go (first_of reasons) refl
  where
    go : (n : ℕ) → first_of reasons ≡ n → Decision reasons refusal service (cond (eqb n 0) service (refusal n))
    go zero e = serving (none-holds reasons ok e)
    go (suc n) e =
        subst (λ b. Decision reasons refusal service (cond b service (refusal (suc n)))) (sym (eqb-suc-zero n))
        (refusing n (first-is reasons n e))
