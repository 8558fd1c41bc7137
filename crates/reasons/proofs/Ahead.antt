-- Reasons 1 and 2 stand ahead of the others: an unsound table is answered 1 by every call, and in a sound one a handle that names
-- nothing is answered 2, whatever else holds. By the definitions alone. Assumes nothing.
use mathlib.Core.Path.{◌≡◌, refl}
use mathlib.Core.Bool.{Bool, true, false}
use Prim.Native.Nat.{ℕ}
use Rattle.reasons.specs.Reasons.{first_of}
use Rattle.reasons.specs.Checks.{open_reasons, reseed_reasons, draw_reasons, fresh_draw_reasons, close_reasons, inquire_reasons}

pub unsound_open : (mechanism strength interval entropy nonce personalization slot last : ℕ)
    → first_of (open_reasons false mechanism strength interval entropy nonce personalization slot last) ≡ 1
unfolding open_reasons first_of
unsound_open mechanism strength interval entropy nonce personalization slot last = refl

module _ (own entropy additional : ℕ) where
  pub unsound_reseed : (named : Bool) → first_of (reseed_reasons false named own entropy additional) ≡ 1
  unfolding reseed_reasons first_of
  unsound_reseed true = refl
  unsound_reseed false = refl

  pub unnamed_reseed : first_of (reseed_reasons true false own entropy additional) ≡ 2
  unfolding reseed_reasons first_of
  unnamed_reseed = refl

module _ (own interval counter strength request additional : ℕ) where
  pub unsound_draw : (named : Bool) → first_of (draw_reasons false named own interval counter strength request additional) ≡ 1
  unfolding draw_reasons first_of
  unsound_draw true = refl
  unsound_draw false = refl

  pub unnamed_draw : first_of (draw_reasons true false own interval counter strength request additional) ≡ 2
  unfolding draw_reasons first_of
  unnamed_draw = refl

module _ (own fresh strength request entropy additional : ℕ) where
  pub unsound_fresh_draw : (named : Bool) → first_of (fresh_draw_reasons false named own fresh strength request entropy additional) ≡ 1
  unfolding fresh_draw_reasons first_of
  unsound_fresh_draw true = refl
  unsound_fresh_draw false = refl

  pub unnamed_fresh_draw : first_of (fresh_draw_reasons true false own fresh strength request entropy additional) ≡ 2
  unfolding fresh_draw_reasons first_of
  unnamed_fresh_draw = refl

pub unsound_close : (named : Bool) → first_of (close_reasons false named) ≡ 1
unfolding close_reasons first_of
unsound_close true = refl
unsound_close false = refl

pub unnamed_close : first_of (close_reasons true false) ≡ 2
unfolding close_reasons first_of
unnamed_close = refl

pub unsound_inquire : (named : Bool) → first_of (inquire_reasons false named) ≡ 1
unfolding inquire_reasons first_of
unsound_inquire true = refl
unsound_inquire false = refl

pub unnamed_inquire : first_of (inquire_reasons true false) ≡ 2
unfolding inquire_reasons first_of
unnamed_inquire = refl
