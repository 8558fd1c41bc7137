-- What holds of a call that no reason refuses. Assumes nothing.
use mathlib.Core.Path.{◌≡◌, refl, sym}
use mathlib.Core.Bool.{Bool, true, false, false≢true, not, ◌&&◌, ◌||◌}
use mathlib.Core.Logic.{◌⊎◌, inl, inr}
use Prim.Native.Nat.{ℕ, ◌/◌, ◌^◌, ◌≤◌}
use borrow.Author.Tests.{ltb-false, eqb-true, eqb-false, not-false}
use lib.Dec.{eqb, ltb}
use Rattle.reasons.specs.Reasons.{NoneHolds, first_of}
use Rattle.reasons.proofs.FirstReason.{none-holds}
use Rattle.reasons.specs.Checks.{outside, rounded, open_reasons, reseed_reasons, draw_reasons, fresh_draw_reasons, close_reasons}

one-or_two : (m : ℕ) → (not (eqb m 1) && not (eqb m 2)) ≡ false → (m ≡ 1) ⊎ (m ≡ 2)
one-or_two m h = go (eqb m 1) (eqb m 2) refl refl h
  where
    go : (a b : Bool) → eqb m 1 ≡ a → eqb m 2 ≡ b → (not a && not b) ≡ false → (m ≡ 1) ⊎ (m ≡ 2)
    go true b one two e = inl (eqb-true m 1 one)
    go false true one two e = inr (eqb-true m 2 two)
    go false false one two e = absurd (false≢true (sym e))

inside : (least x most : ℕ) → outside least x most ≡ false → (least ≤ x) × (x ≤ most)
inside least x most h = go (ltb x least) refl h
  where
    go : (b : Bool) → ltb x least ≡ b → (b || ltb most x) ≡ false → (least ≤ x) × (x ≤ most)
    go true low e = absurd (false≢true (sym e))
    go false low e = (ltb-false x least low, ltb-false most x e)

pub record MayOpen (sound : Bool) (mechanism strength interval entropy nonce personalization slot last : ℕ) : Type 0 where
  pub sound_so : sound ≡ true
  pub mechanism_so : (mechanism ≡ 1) ⊎ (mechanism ≡ 2)
  pub strength_most : strength ≤ 256
  pub interval-some : 1 ≤ interval
  pub interval_most : interval ≤ 2 ^ 48
  pub personalization_most : personalization ≤ 512
  pub entropy_least : rounded strength / 8 ≤ entropy
  pub entropy_most : entropy ≤ 1024
  pub nonce_least : rounded strength / 16 ≤ nonce
  pub nonce_most : nonce ≤ 64
  pub slot_free : slot ≡ 16 → ⊥
  pub serials_left : last ≡ 4294967295 → ⊥

pub may_open : {sound : Bool} {mechanism strength interval entropy nonce personalization slot last : ℕ}
    → NoneHolds (open_reasons sound mechanism strength interval entropy nonce personalization slot last)
    → MayOpen sound mechanism strength interval entropy nonce personalization slot last
unfolding open_reasons
may_open h =
    record {
      sound_so = not-false _ h.0;
      mechanism_so = one-or_two _ h.1.0;
      strength_most = ltb-false 256 _ h.1.1.0;
      interval-some = (inside 1 _ (2 ^ 48) h.1.1.1.0).0;
      interval_most = (inside 1 _ (2 ^ 48) h.1.1.1.0).1;
      personalization_most = ltb-false 512 _ h.1.1.1.1.0;
      entropy_least = (inside _ _ 1024 h.1.1.1.1.1.0).0;
      entropy_most = (inside _ _ 1024 h.1.1.1.1.1.0).1;
      nonce_least = (inside _ _ 64 h.1.1.1.1.1.1.0).0;
      nonce_most = (inside _ _ 64 h.1.1.1.1.1.1.0).1;
      slot_free = eqb-false _ 16 h.1.1.1.1.1.1.1.0;
      serials_left = eqb-false _ 4294967295 h.1.1.1.1.1.1.1.1.0;
    }

pub record MayReseed (sound named : Bool) (own entropy additional : ℕ) : Type 0 where
  pub sound_so : sound ≡ true
  pub named_so : named ≡ true
  pub additional_most : additional ≤ 1024
  pub entropy_least : own / 8 ≤ entropy
  pub entropy_most : entropy ≤ 1024

pub may_reseed : {sound named : Bool} {own entropy additional : ℕ} → NoneHolds (reseed_reasons sound named own entropy additional)
    → MayReseed sound named own entropy additional
unfolding reseed_reasons
may_reseed h =
    record {
      sound_so = not-false _ h.0;
      named_so = not-false _ h.1.0;
      additional_most = ltb-false 1024 _ h.1.1.0;
      entropy_least = (inside _ _ 1024 h.1.1.1.0).0;
      entropy_most = (inside _ _ 1024 h.1.1.1.0).1;
    }

pub record MayDraw (sound named : Bool) (own interval counter strength request additional : ℕ) : Type 0 where
  pub sound_so : sound ≡ true
  pub named_so : named ≡ true
  pub request_most : request ≤ 65536
  pub strength_most : strength ≤ own
  pub additional_most : additional ≤ 1024
  pub not_due : counter ≤ interval

pub may_draw : {sound named : Bool} {own interval counter strength request additional : ℕ}
    → NoneHolds (draw_reasons sound named own interval counter strength request additional)
    → MayDraw sound named own interval counter strength request additional
unfolding draw_reasons
may_draw h =
    record {
      sound_so = not-false _ h.0;
      named_so = not-false _ h.1.0;
      request_most = ltb-false 65536 _ h.1.1.0;
      strength_most = ltb-false _ _ h.1.1.1.0;
      additional_most = ltb-false 1024 _ h.1.1.1.1.0;
      not_due = ltb-false _ _ h.1.1.1.1.1.0;
    }

pub record MayDrawFresh (sound named : Bool) (own fresh strength request entropy additional : ℕ) : Type 0 where
  pub sound_so : sound ≡ true
  pub named_so : named ≡ true
  pub request_most : request ≤ 65536
  pub strength_most : strength ≤ own
  pub additional_most : additional ≤ 1024
  pub right : fresh ≡ 0 → ⊥
  pub entropy_least : own / 8 ≤ entropy
  pub entropy_most : entropy ≤ 1024

pub may_draw-fresh : {sound named : Bool} {own fresh strength request entropy additional : ℕ}
    → NoneHolds (fresh_draw_reasons sound named own fresh strength request entropy additional)
    → MayDrawFresh sound named own fresh strength request entropy additional
unfolding fresh_draw_reasons
may_draw-fresh h =
    record {
      sound_so = not-false _ h.0;
      named_so = not-false _ h.1.0;
      request_most = ltb-false 65536 _ h.1.1.0;
      strength_most = ltb-false _ _ h.1.1.1.0;
      additional_most = ltb-false 1024 _ h.1.1.1.1.0;
      right = eqb-false _ 0 h.1.1.1.1.1.0;
      entropy_least = (inside _ _ 1024 h.1.1.1.1.1.1.0).0;
      entropy_most = (inside _ _ 1024 h.1.1.1.1.1.1.0).1;
    }

pub record MayClose (sound named : Bool) : Type 0 where
  pub sound_so : sound ≡ true
  pub named_so : named ≡ true

pub may_close : {sound named : Bool} → NoneHolds (close_reasons sound named) → MayClose sound named
unfolding close_reasons
may_close h = record { sound_so = not-false _ h.0; named_so = not-false _ h.1.0 }

-- and of one for which the code finds none
pub open_found : {sound : Bool} {mechanism strength interval entropy nonce personalization slot last : ℕ}
    → 0 ≡ first_of (open_reasons sound mechanism strength interval entropy nonce personalization slot last)
    → MayOpen sound mechanism strength interval entropy nonce personalization slot last
unfolding open_reasons
open_found none = may_open (none-holds _ refl (sym none))

pub reseed_found : {sound named : Bool} {own entropy additional : ℕ}
    → 0 ≡ first_of (reseed_reasons sound named own entropy additional)
    → MayReseed sound named own entropy additional
unfolding reseed_reasons
reseed_found none = may_reseed (none-holds _ refl (sym none))

pub draw_found : {sound named : Bool} {own interval counter strength request additional : ℕ}
    → 0 ≡ first_of (draw_reasons sound named own interval counter strength request additional)
    → MayDraw sound named own interval counter strength request additional
unfolding draw_reasons
draw_found none = may_draw (none-holds _ refl (sym none))

pub fresh_draw_found : {sound named : Bool} {own fresh strength request entropy additional : ℕ}
    → 0 ≡ first_of (fresh_draw_reasons sound named own fresh strength request entropy additional)
    → MayDrawFresh sound named own fresh strength request entropy additional
unfolding fresh_draw_reasons
fresh_draw_found none = may_draw-fresh (none-holds _ refl (sym none))
