-- The published examples hold of the definitions, by computation: nobody has to take the definitions on trust. Assumes nothing.
use mathlib.Core.Path.{◌≡◌, refl}
use mathlib.Core.List.{[], ◌∷◌}
use Rattle.standard.specs.Words.{Σ, σ}
use Rattle.standard.specs.Metered.{◌>>=◌}
use Rattle.standard.specs.Strings.{number_of, bytes_of}
use Rattle.standard.specs.Hash.{hash, absorbed, compressed, added, turns, turn, T₁, T₂, schedule, schedule_word, word_at, block_at}
use Rattle.standard.specs.Hash.{padded, padding, zeros, digest}
use Rattle.standard.specs.Sha256.{sha256, K256, initial256}
use Rattle.standard.specs.Hmac.{ipad, opad, key, hmac, filled, xored}
use Rattle.standard.specs.Vectors.{abc, abc_hash, two_blocks, two_blocks_hash, jefe_key, jefe_text, jefe_hmac}

-- an example is computed only once this holds, so that a wrong definition is told at once, and in small numbers
since : {A B : Type 0} → A → B → B
since first then = then

-- FIPS 180-4 §4.1.2: where the four functions take the highest bit
pub highest_bit : (Σ 32 sha256.Σ₀ 0x80000000 ≡ 0x20040200) × (Σ 32 sha256.Σ₁ 0x80000000 ≡ 0x02100040) ×
    (σ 32 sha256.σ₀ 0x80000000 ≡ 0x11002000) × (σ 32 sha256.σ₁ 0x80000000 ≡ 0x00205000)
highest_bit = (refl, refl, refl, refl)

-- FIPS 198-1 §2.3: the two pads, xored to the example's key
pub jefe_pads : (xored ipad jefe_key ≡ 0x7c ∷ 0x53 ∷ 0x50 ∷ 0x53 ∷ []) × (xored opad jefe_key ≡ 0x16 ∷ 0x39 ∷ 0x3a ∷ 0x39 ∷ [])
unfolding xored jefe_key
jefe_pads = (refl, refl)

pub abc_example : hash sha256 abc ≡ abc_hash
unfolding hash absorbed compressed added turns turn T₁ T₂ schedule schedule_word word_at block_at padded padding zeros digest
    number_of bytes_of K256 initial256 abc abc_hash
abc_example = since highest_bit refl

pub two_blocks_example : hash sha256 two_blocks ≡ two_blocks_hash
unfolding hash absorbed compressed added turns turn T₁ T₂ schedule schedule_word word_at block_at padded padding zeros digest
    number_of bytes_of K256 initial256 two_blocks two_blocks_hash
two_blocks_example = since highest_bit refl

pub hmac_example : (key sha256 jefe_key >>= λ K. hmac sha256 K jefe_text) ≡ jefe_hmac
unfolding hash absorbed compressed added turns turn T₁ T₂ schedule schedule_word word_at block_at padded padding zeros digest
    number_of bytes_of K256 initial256 key hmac filled xored jefe_key jefe_text jefe_hmac
hmac_example = since highest_bit (since jefe_pads refl)
