-- Document 01, 'What the station hears back': reasons as numbers with their tests, of which the first that holds is the answer.
use Rattle.std.specs.Prelude.{ℕ, ◌≡◌, Bool, true, false, cond, eqb}

infixr 10 ◌when◌else◌
pub data Reasons : Type 0 where
  served : Reasons
  ◌when◌else◌ : (number : ℕ) (holds : Bool) → Reasons → Reasons

-- the first that holds; 0 where none does
unfoldable pub first_of : Reasons → ℕ
first_of served = 0
first_of (number when holds else rest) = cond holds number (first_of rest)

-- this number is the first reason's: it holds, and those before it do not
pub data First (n : ℕ) : Reasons → Type 0 where
  this : {rest : Reasons} → First n (n when true else rest)
  later : {number : ℕ} {rest : Reasons} → First n rest → First n (number when false else rest)

-- no reason holds
abbrev pub NoneHolds : Reasons → Type 0
NoneHolds served = Unit {0}
NoneHolds (number when holds else rest) = (holds ≡ false) × NoneHolds rest

-- refused by the first reason that holds, or served where none does
unfoldable pub decided : {A : Type 0} → Reasons → (refusal : ℕ → A) (service : A) → A
decided reasons refusal service = cond (eqb (first_of reasons) 0) service (refusal (first_of reasons))
