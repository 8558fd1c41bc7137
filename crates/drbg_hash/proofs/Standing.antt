-- Hash_DRBG's seed, and its draw from its parts, as they stand in a slot. Assumes nothing.
use mathlib.Core.Path.{◌≡◌, refl, sym, ap, ◌∙◌}
use mathlib.Core.List.{List, ◌∷◌}
use Prim.Native.Nat.{ℕ, ◌+◌, ◌≤◌}
use native.Mathlib.Omega.{arith}
use lib.Dec.{lit<}
use lib.ListN.{length}
use Rattle.standard.specs.Metered.{Metered}
use Rattle.standard.specs.Strings.{number_of}
use Rattle.standard.specs.Hash.{hash}
use Rattle.standard.specs.HashDrbg.{seeded, refreshed, hashgen, stepped}
use Rattle.standard.specs.HashDrbg as Hash
use Rattle.standard.specs.Functions.{Hash_DRBG, draw}
use Rattle.standard.specs.Sha256.{sha256}
use Rattle.standard.specs.Lengths.{Sized}
use Rattle.standard.proofs.Bound.{bounded}
use Rattle.standard.proofs.Lengths.{sized_seeded, sized_draw}
use Rattle.drbg_shared.specs.Costs.{costing}
use Rattle.drbg_shared.specs.Generator.{Fields, holding, led_on, state_of, standing, served, filled}
use Rattle.drbg_shared.proofs.Metered.{same_metered}
use Rattle.drbg_shared.proofs.Standing.{field-55}
use Rattle.drbg_hash.specs.Seeds.{seed_for, state_with}

pub served_seed : (material v c : List ℕ) (blocks : ℕ) → seed_for blocks v c ≡ seeded sha256 material
    → (led_on v c 1 blocks ≡ served (seeded sha256 material)) × Fields v c
unfolding served standing
served_seed material v c blocks seed =
    let sized : Sized 55 (seed_for blocks v c).value = rw (← seed) at (sized_seeded sha256 (lit< tt) material) in
    (sym (rw (← seed, field-55 v sized.first, field-55 c sized.second)), (sized.first, sized.second))

-- Hash_DRBG's draw, put together from its parts
module _ (first second : List ℕ) (counter n : ℕ) (additional v out next : List ℕ) (begun turns last : ℕ)
    (v-is : costing begun v ≡ refreshed sha256 additional first)
    (out-is : costing turns out ≡ hashgen sha256 n v)
    (next-is : costing last next ≡ state_with v second counter) where
  drawn-hash : draw sha256 Hash_DRBG (state_of Hash_DRBG (holding first second counter)) n additional
      ≡ record {
        value = record { bytes = out; state = record { first = next; second = second; counter = counter + 1 } };
        blocks = begun + turns + last;
      }
  unfolding Hash.generate state_of state_with
  drawn-hash =
      let h = hash sha256 (0x03 ∷ v) in
      let stepped-is : next ≡ stepped sha256 v (number_of h.value + number_of second + counter) =
      ap (λ (m : Metered (List ℕ)). m.value) next-is in
      let cost : last ≡ h.blocks + 0 = ap (λ (m : Metered (List ℕ)). m.blocks) next-is in
      rw (← v-is, ← out-is, ← stepped-is) (same_metered refl (summed begun turns _ ∙ ap (λ c. begun + turns + c) (sym cost)))
    where
      summed : (a b c : ℕ) → a + (b + (c + 0)) ≡ a + b + (c + 0)
      summed a b c = omega arith

  pub drawn-stands : Fields first second → n ≤ 65536 → length additional ≤ 1024
      → (record { served = led_on next second (counter + 1) (begun + turns + last); output = out }
      ≡ filled (draw sha256 Hash_DRBG (state_of Hash_DRBG (holding first second counter)) n additional)) ×
      ((begun + turns + last ≤ 8288) × (length next ≡ 55))
  unfolding filled standing state_of
  drawn-stands fields request short =
      let s = state_of Hash_DRBG (holding first second counter) in
      let sized : Sized 55 s = record { first = fields.0; second = fields.1 } in
      let after = rw drawn-hash at (sized_draw sha256 Hash_DRBG s n additional sized) in (
        rw (drawn-hash, field-55 next after.first, field-55 second after.second),
        (rw drawn-hash at ((bounded Hash_DRBG).draw s n additional sized request short), after.first),
      )
