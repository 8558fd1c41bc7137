-- Hash_DRBG's values as the code holds them, with their cost in blocks.
use Rattle.std.specs.Prelude.{ℕ, ◌+◌, List, ◌∷◌}
use Rattle.standard.specs.Metered.{Metered, return, ◌>>=◌}
use Rattle.standard.specs.Strings.{number_of}
use Rattle.standard.specs.Hash.{hash}
use Rattle.standard.specs.HashDf.{hash_df}
use Rattle.standard.specs.State.{State}
use Rattle.standard.specs.HashDrbg.{stepped}
use Rattle.standard.specs.Sha256.{sha256}

-- V and C with the blocks that were consumed for them
abbrev pub seed_for : (blocks : ℕ) (v c : List ℕ) → Metered State
seed_for blocks v c = record { value = record { first = v; second = c; counter = 1 }; blocks = blocks }

-- SP 800-90A §10.1.1.2 and 10.1.1.3, step 4: C from V
unfoldable pub constant_of : (v : List ℕ) → Metered (List ℕ)
constant_of v = hash_df sha256 (0x00 ∷ v) 55

-- §10.1.1.4, steps 4 and 5: V after a draw
unfoldable pub state_with : (v c : List ℕ) (counter : ℕ) → Metered (List ℕ)
state_with v c counter = do
  h ← hash sha256 (0x03 ∷ v)
  return (stepped sha256 v (number_of h + number_of c + counter))
