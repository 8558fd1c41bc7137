-- HMAC_DRBG's values as the code holds them, with their cost in blocks.
use Rattle.std.specs.Prelude.{ℕ, List, ◌∷◌, ◌++◌, take}
use Rattle.standard.specs.Metered.{Metered, return, ◌>>=◌}
use Rattle.standard.specs.Hmac.{Key, filled, hmac, rekey}
use Rattle.standard.specs.HmacDrbg as Standard
use Rattle.standard.specs.Sha256.{sha256}
use Rattle.drbg_hmac.specs.declared.hmac_drbg.Keyed.{Keyed}

-- FIPS 198-1, table 1, steps 1 and 3: a key that is no longer than a block
abbrev pub ready : List ℕ → Key
ready K = record { bytes = K; K₀ = filled sha256 K }

-- Key and V, and as the code holds them
abbrev pub keyed : (K v : List ℕ) → Standard.Keyed
keyed K v = record { K = ready K; v = v }

abbrev pub held : Keyed → Standard.Keyed
held u = keyed u.key u.v

-- SP 800-90A §10.1.2.2, steps 1 and 2, or 4 and 5: the two halves of an update differ in the separator
unfoldable pub half : (separator : ℕ) (provided : List ℕ) → Standard.Keyed → Metered Standard.Keyed
half separator provided u = do
  K ← rekey sha256 u.K (u.v ++ (separator ∷ provided))
  v ← hmac sha256 K u.v
  return (record { K = K; v = v })

-- both with the blocks that were consumed for them
abbrev pub keyed_for : (blocks : ℕ) (K v : List ℕ) → Metered Standard.Keyed
keyed_for blocks K v = record { value = keyed K v; blocks = blocks }

abbrev pub held_for : (blocks : ℕ) → Keyed → Metered Standard.Keyed
held_for blocks u = keyed_for blocks u.key u.v

-- a filled output and the V behind it, with the blocks that were consumed for them
abbrev pub output_for : (blocks : ℕ) (bytes v : List ℕ) → Metered (List ℕ × List ℕ)
output_for blocks bytes v = record { value = (bytes, v); blocks = blocks }

-- the first n bytes of what the turns made, and V
abbrev pub drawn_out : Metered (List ℕ × List ℕ) → ℕ → Metered (List ℕ × List ℕ)
drawn_out turns n = record { value = (take n turns.value.0, turns.value.1); blocks = turns.blocks }
