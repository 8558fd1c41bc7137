-- The hash of 03 and V, and one sum of V, that hash, C and the counter. Assumes nothing.
use Rattle.std.proofs.Common.{◌≡◌, List, ◌∷◌, ◌+◌, ℕ, ap, ◌∙◌}
use Rattle.standard.specs.Metered.{Metered}
use Rattle.standard.specs.Strings.{number_of, bytes_of}
use Rattle.standard.specs.Hash.{hash}
use Rattle.standard.specs.HashDrbg.{stepped}
use Rattle.standard.specs.Sha256.{sha256}
use Rattle.drbg_shared.specs.Costs.{costing}
use Rattle.drbg_hash.specs.Seeds.{state_with}
use Rattle.drbg_hash.proofs.hash_drbg.step.Goals as goal

pub returns : goal.returns
unfolding state_with stepped
returns c =
    let v : List ℕ = c.args.v.now in
    let k : List ℕ = c.args.c.now in
    let n : ℕ = c.args.counter in
    let hashed : costing 2 c.hash_of_led-h.result ≡ hash sha256 (0x03 ∷ v) = c.hash_of_led-h.ensures ∙ ap (hash sha256) c.led.ensures in
    ap (λ s. costing 2 s) c.total-next.ensures ∙
    ap (λ (m : Metered (List ℕ)). costing (m.blocks + 0) (bytes_of 55 (number_of v + (number_of m.value + number_of k + n)))) hashed
