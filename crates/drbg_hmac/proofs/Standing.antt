-- HMAC_DRBG's states as they stand in a slot, and its draw from its parts. Assumes nothing.
use mathlib.Core.Path.{◌≡◌, refl, sym, ap, ◌∙◌}
use mathlib.Core.List.{List, ◌++◌}
use Prim.Native.Nat.{ℕ, ◌+◌, ◌≤◌}
use native.Mathlib.Omega.{arith}
use lib.ListN.{length, take, replicate}
use Rattle.standard.specs.Metered.{Metered, return}
use Rattle.standard.specs.State.{State}
use Rattle.standard.specs.Strings.{ceiling, if_null}
use Rattle.standard.specs.HmacDrbg.{Keyed, kept, update, taken, output_turns, generate}
use Rattle.standard.specs.Functions.{HMAC_DRBG, draw}
use Rattle.standard.specs.Sha256.{sha256}
use Rattle.standard.proofs.Lengths.{ready-update}
use Rattle.standard.proofs.Bound.{bounded}
use Rattle.drbg_hmac.specs.Keys.{ready, keyed, keyed_for, output_for, drawn_out}
use Rattle.drbg_shared.specs.Generator.{standing, filled, led_on}
use Rattle.drbg_hmac.proofs.Pads.{key-ready}
use Rattle.drbg_shared.proofs.Metered.{same_metered}
use Rattle.drbg_shared.proofs.Standing.{field-32}

-- Key and V after an update, each put into its field
pub kept-update : (d : List ℕ) (u : Keyed) (K v : List ℕ) (blocks counter : ℕ) {first second : List ℕ}
    → keyed_for blocks K v ≡ update sha256 d u → first ≡ K ++ replicate 23 0 → second ≡ v ++ replicate 23 0
    → led_on first second counter blocks
    ≡ record { generator = standing (kept (update sha256 d u).value counter); blocks = (update sha256 d u).blocks }
unfolding standing
kept-update d u K v blocks counter e first-is second_is =
    let sizes = ready-update sha256 d u in
    let K-size : length K ≡ 32 = ap (λ (m : Metered Keyed). length m.value.K.bytes) e ∙ sizes.bytes in
    let v-size : length v ≡ 32 = ap (λ (m : Metered Keyed). length m.value.v) e ∙ sizes.v in
    rw (← e, first-is, second_is, field-32 K K-size, field-32 v v-size)

-- a state whose key is made ready at no cost
pub taken-ready : (s : State) → length s.first ≡ 32 → taken sha256 s ≡ return (keyed s.first s.second)
unfolding taken
taken-ready s size = rw (key-ready s.first size)

-- HMAC_DRBG's draw, put together from its parts: Key and V refreshed (K, v), the output and the V behind it (out, w), the last update
module _ (s : State) (n : ℕ) (additional K v out w K₂ v₂ : List ℕ) (begun output last : ℕ)
    (K-size : length s.first ≡ 32)
    (begun-is : let u = keyed s.first s.second in keyed_for begun K v ≡ if_null additional (return u) (update sha256 additional u))
    (output-is : output_for output out w ≡ drawn_out (output_turns sha256 (ready K) v (ceiling n 32)) n)
    (last-is : keyed_for last K₂ v₂ ≡ update sha256 additional (keyed K w)) where
  drawn-hmac : draw sha256 HMAC_DRBG s n additional
      ≡ record {
        value = record { bytes = out; state = kept (update sha256 additional (keyed K w)).value (s.counter + 1) };
        blocks = begun + output + last;
      }
  unfolding generate
  drawn-hmac =
      let turns = output_turns sha256 (ready K) v (ceiling n 32) in
      let out-is : take n turns.value.0 ≡ out = sym (ap (λ (m : Metered (List ℕ × List ℕ)). m.value.0) output-is) in
      let w-is : turns.value.1 ≡ w = sym (ap (λ (m : Metered (List ℕ × List ℕ)). m.value.1) output-is) in
      let cost : turns.blocks ≡ output = sym (ap (λ (m : Metered (List ℕ × List ℕ)). m.blocks) output-is) in
      rw (taken-ready s K-size, ← begun-is, out-is, w-is, cost, ← last-is) (same_metered refl (summed begun output last))
    where
      summed : (a b c : ℕ) → 0 + (a + (b + (c + 0))) ≡ a + b + c
      summed a b c = omega arith

  pub served-hmac : {first second : List ℕ} → first ≡ K₂ ++ replicate 23 0 → second ≡ v₂ ++ replicate 23 0
      → record { served = led_on first second (s.counter + 1) (begun + output + last); output = out }
      ≡ filled (draw sha256 HMAC_DRBG s n additional)
  unfolding filled
  served-hmac first-is second_is =
      let stands = ap (λ r. r.generator) (kept-update additional (keyed K w) K₂ v₂ last (s.counter + 1) last-is first-is second_is) in
      rw (drawn-hmac, ← stands)

  pub few-hmac : length s.second ≡ 32 → n ≤ 65536 → length additional ≤ 1024 → begun + output + last ≤ 8288
  few-hmac v-size request short =
      rw drawn-hmac at ((bounded HMAC_DRBG).draw s n additional (record { first = K-size; second = v-size }) request short)
