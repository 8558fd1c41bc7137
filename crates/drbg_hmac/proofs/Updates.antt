-- HMAC_DRBG's update as two halves that differ in the separator. Assumes nothing.
use mathlib.Core.Path.{◌≡◌, refl, sym, ap, ◌∙◌}
use mathlib.Core.List.{List}
use Prim.Native.Nat.{ℕ, ◌+◌, ◌/◌, ◌<◌}
use native.Mathlib.Nat.{add-zero}
use native.Mathlib.Omega.{arith}
use lib.Dec.{lit<}
use lib.ListN.{length}
use Rattle.standard.specs.Metered.{Metered, return, ◌>>=◌}
use Rattle.standard.specs.Strings.{if_null}
use Rattle.standard.specs.Hmac.{hmac}
use Rattle.standard.specs.HmacDrbg.{Keyed, update}
use Rattle.standard.specs.Sha256.{sha256}
use Rattle.standard.proofs.Counts.{half-update-blocks, hmac-blocks}
use Rattle.standard.proofs.Lengths.{length-filled}
use Rattle.standard.proofs.Strings.{if_null-nil, if_null-some}
use Rattle.drbg_shared.specs.Costs.{costing}
use Rattle.std.proofs.lemmas.List.{nil_from_length}
use Rattle.drbg_shared.proofs.Metered.{same_metered}
use Rattle.drbg_hmac.specs.Keys.{ready, keyed, keyed_for, half}

pub update_halves : (d : List ℕ) (u : Keyed) → update sha256 d u ≡ (half 0x00 d u >>= λ u. if_null d (return u) (half 0x01 d u))
unfolding update half
update_halves d u = same_metered refl (regrouped _ _ _)
  where
    regrouped : (a b n : ℕ) → a + (b + n) ≡ a + (b + 0) + n
    regrouped a b n = omega arith

module _ (K v : List ℕ) (K-size : length K ≡ 32) (v-size : length v ≡ 32) where
  one_block : length (ready K).K₀ ≡ 64
  one_block = length-filled sha256 K (omega arith)

  -- the blocks of a half, and of an HMAC
  pub half_count : {K₂ v₂ : List ℕ} {n : ℕ} (separator : ℕ) (d : List ℕ) → keyed_for n K₂ v₂ ≡ half separator d (keyed K v)
      → n ≡ (length d + 41) / 64 + 8
  unfolding half
  half_count separator d e =
      ap (λ m. m.blocks) e ∙ rw add-zero (half-update-blocks sha256 (lit< tt) (ready K) v d separator one_block v-size)

  pub hmac-count : {s : List ℕ} {n : ℕ} (text : List ℕ) → costing n s ≡ hmac sha256 (ready K) text → n ≡ (length text + 8) / 64 + 4
  hmac-count text e = ap (λ m. m.blocks) e ∙ hmac-blocks sha256 (lit< tt) (ready K) text one_block

-- an update is its first half alone where nothing is provided, and both halves elsewhere
pub update-none : (d : List ℕ) (u : Keyed) {r : Metered Keyed} → length d ≡ 0 → r ≡ half 0x00 d u → r ≡ update sha256 d u
update-none d u none once = once ∙ sym (update_halves d u ∙ rw (nil_from_length d none, if_null-nil) (same_metered refl (add-zero _)))

pub update-some : (d : List ℕ) (u : Keyed) {K v K₂ v₂ : List ℕ} {n m : ℕ} → 0 < length d → keyed_for n K v ≡ half 0x00 d u
    → keyed_for m K₂ v₂ ≡ half 0x01 d (keyed K v) → keyed_for (n + m) K₂ v₂ ≡ update sha256 d u
update-some d u {K} {v} some once twice =
    sym (update_halves d u ∙ rw (← once, if_null-some d (return (keyed K v)) (half 0x01 d (keyed K v)) some, ← twice))
