-- Two strings compared from the front, a byte at a time. Assumes nothing.
use Rattle.std.proofs.Common.{◌≡◌, ℕ, suc, refl, sym, ap, ap₂, ◌∙◌, List, [], ◌∷◌, ◌&&◌, Bool, true, false, length, arith, ◌⊎◌, inl, inr}
use mathlib.Core.Bool.{and_assoc, and-false, false≢true}
use Rattle.std.proofs.Math.Bool.{and-true}
use borrow.Author.Tests.{eqb-true, eq-eqb}
use lib.Dec.{eqb}
use Rattle.same.specs.Same.{same}

-- strings of two lengths are not the same
pub other_lengths : (a b : List ℕ) → (length a ≡ length b → ⊥) → false ≡ same a b
unfolding same
other_lengths [] [] h = absurd (h refl)
other_lengths [] (y ∷ b) h = refl
other_lengths (x ∷ a) [] h = refl
other_lengths (x ∷ a) (y ∷ b) h = sym (ap (λ e. eqb x y && e) (sym (other_lengths a b (λ l. h (ap suc l)))) ∙ and-false (eqb x y))

-- one byte more
pub same_next : {a b r s : List ℕ} {x y : ℕ} (equal : Bool) → a ≡ x ∷ r → b ≡ y ∷ s → ((equal && eqb x y) && same r s) ≡ (equal && same a b)
unfolding same
same_next {a} {b} {r} {s} {x} {y} equal p q = and_assoc equal (eqb x y) (same r s) ∙ ap (λ e. equal && e) (sym (ap₂ same p q))

-- and at the end none is left
pub same_end : (a b : List ℕ) (equal : Bool) → length a ≡ length b → (length a ≡ 0) ⊎ (length b ≡ 0) → (equal && same a b) ≡ equal
unfolding same
same_end [] [] equal e h = and-true equal
same_end [] (y ∷ b) equal e h = absurd (omega (arith, e))
same_end (x ∷ a) b equal e h = elim h [ inl l ↦ absurd (omega (arith, l)) | inr r ↦ absurd (omega (arith, e, r)) ]

both : (a b : Bool) → (a && b) ≡ true → (a ≡ true) × (b ≡ true)
both true b h = (refl, h)
both false b h = absurd (false≢true h)

-- the test says what it is called
pub same-is : (a b : List ℕ) → same a b ≡ true → a ≡ b
unfolding same
same-is [] [] h = refl
same-is [] (y ∷ b) h = absurd (false≢true h)
same-is (x ∷ a) [] h = absurd (false≢true h)
same-is (x ∷ a) (y ∷ b) h =
    let parts = both (eqb x y) (same a b) h in
    ap₂ ◌∷◌ (eqb-true x y parts.0) (same-is a b parts.1)

same_self : (a : List ℕ) → same a a ≡ true
unfolding same
same_self [] = refl
same_self (x ∷ a) = ap₂ ◌&&◌ (eq-eqb x x refl) (same_self a)

pub same_equal : {a b : List ℕ} → a ≡ b → same a b ≡ true
same_equal {a} e = ap (same a) (sym e) ∙ same_self a
