-- SP 800-90A §10.1.1.4: Hashgen after its first n turns, as the code holds it. V has 55 bytes.
use Rattle.std.specs.Prelude.{ℕ, ◌+◌, ◌*◌, ◌<◌, ◌≡◌, List, [], ◌∷◌, ◌++◌, length, get_or, take}
use Rattle.standard.specs.Hash.{compressed, padding}
use Rattle.standard.specs.HashDrbg.{hashgen_turns}
use Rattle.standard.specs.Sha256.{sha256}
use Rattle.compression.specs.Values.{eight_of}
use Rattle.compression.specs.declared.rounds.Eight as Words
use Rattle.lanes.specs.Lanes.{no_eight}
use Rattle.sums.specs.Limbs.{string_of}

-- the limbs, V and a bit 1, are V's only block but for its end: zeros and 440, V's length in bits
abbrev pub block_end : List ℕ
block_end = 0 ∷ 0 ∷ 0 ∷ 0 ∷ 0 ∷ 0 ∷ 1 ∷ 184 ∷ []

abbrev pub block_of : (limbs : List ℕ) → List ℕ
block_of limbs = string_of limbs ++ block_end

-- what the first n turns make
abbrev pub made : (v : List ℕ) (n : ℕ) → List ℕ
made v n = (hashgen_turns sha256 v n).value.0

-- the data that turn n hashes, and its only block
abbrev pub turn_data : (v : List ℕ) (n : ℕ) → List ℕ
turn_data v n = (hashgen_turns sha256 v n).value.1

abbrev pub turn_block : (v : List ℕ) (n : ℕ) → List ℕ
turn_block v n = turn_data v n ++ padding sha256 55

-- the limbs are the data of turn n and a bit 1
abbrev pub Ready : (v : List ℕ) (n : ℕ) (limbs : List ℕ) → Type 0
Ready v n limbs = string_of limbs ≡ turn_data v n ++ (128 ∷ [])

-- the hash values of four turns, from turn n on
abbrev pub HashesFrom : (v : List ℕ) (n : ℕ) (s : List Words.Eight) → Type 0
HashesFrom v n s = (l : ℕ) → l < 4 → eight_of (get_or s l no_eight) ≡ compressed sha256 sha256.initial (turn_block v (n + l))

-- the output begins with as much as fits of what n turns make
pub record Filled (v : List ℕ) (n : ℕ) (out : List ℕ) : Type 0 where
  pub long : length v ≡ 55
  pub first : take (32 * n) out ≡ take (length out) (made v n)

-- n turns are made
pub record After (v : List ℕ) (n : ℕ) (next out : List ℕ) : Type 0 where
  pub ready : Ready v n next
  pub filled : Filled v n out

-- whoever has made m turns with `next` and `out` has made n with `next'` and `out'`
abbrev pub Onward : (m n : ℕ) (next out next' out' : List ℕ) → Type 0
Onward m n next out next' out' = (v : List ℕ) → After v m next out → After v n next' out'
