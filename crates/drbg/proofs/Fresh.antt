-- A fresh draw from its reseed and its draw: the state that stands in the slot between them is the reseed's own. Assumes nothing.
use mathlib.Core.Path.{◌≡◌, ap, ◌∙◌}
use mathlib.Core.List.{List, []}
use Prim.Native.Nat.{ℕ, ◌+◌}
use lib.Dec.{lit<}
use Rattle.standard.specs.State.{State}
use Rattle.standard.specs.Functions.{Mechanism, reseeding, draw, fresh_draw}
use Rattle.standard.specs.Sha256.{sha256}
use Rattle.standard.proofs.Lengths.{sized_reseeding}
use Rattle.drbg_shared.proofs.Standing.{state_of-standing}
use Rattle.drbg_shared.specs.Generator.{Served, state_of, served, filled, holding, led_on}

-- the two fields after the reseed, and after the draw
pub fresh-drawn : (mechanism : Mechanism) (s : State) (n : ℕ) (entropy additional : List ℕ)
    (first second : List ℕ) (seeded : ℕ) (first' second' : List ℕ) (last : ℕ) (out : List ℕ)
    → led_on first second 1 seeded ≡ served (reseeding sha256 mechanism s entropy additional)
    → record { served = led_on first' second' 2 last; output = out }
    ≡ filled (draw sha256 mechanism (state_of mechanism (holding first second 1)) n [])
    → record { served = led_on first' second' 2 (seeded + last); output = out }
    ≡ filled (fresh_draw sha256 mechanism s n entropy additional)
unfolding fresh_draw served filled
fresh-drawn mechanism s n entropy additional first second seeded first' second' last out seeded-is drawn-is =
    let again = reseeding sha256 mechanism s entropy additional in
    let state-is : state_of mechanism (holding first second 1) ≡ again.value =
    ap (λ (r : Served). state_of mechanism r.generator) seeded-is ∙
    state_of-standing mechanism again.value (sized_reseeding sha256 (lit< tt) mechanism s entropy additional) in
    let drawn : record { served = led_on first' second' 2 last; output = out } ≡ filled (draw sha256 mechanism again.value n []) =
    drawn-is ∙ ap (λ (t : State). filled (draw sha256 mechanism t n [])) state-is in
    let cost = ap (λ (r : Served). r.blocks) seeded-is in
    λ i. record {
      served = record { generator = (drawn i).served.generator; blocks = cost i + (drawn i).served.blocks };
      output = (drawn i).output;
    }
