-- FIPS 198-1: the keyed-hash message authentication code, over any `Hash`.
-- Differs from the document: making a key ready (table 1, steps 1 to 3) stands apart from using it (steps 4 to 9).
use Rattle.std.specs.Prelude.{ℕ, ◌-◌, List, ◌++◌, map, cond, leb, length, replicate}
use Rattle.std.specs.Int.Bits.{bit_xor}
use Rattle.standard.specs.Metered.{Metered, return, ◌>>=◌}
use Rattle.standard.specs.Hash.{Hash, block_bytes, hash}

-- a key made ready: the key itself, and K₀, which is one block long
pub record Key : Type 0 where
  pub bytes : List ℕ
  pub K₀ : List ℕ

-- §2.3: the byte of the inner pad, and of the outer
abbrev pub ipad : ℕ
ipad = 0x36

abbrev pub opad : ℕ
opad = 0x5c

-- a pad xored to K₀ (table 1, steps 4 and 7)
unfoldable pub xored : (pad : ℕ) → List ℕ → List ℕ
xored pad s = map (λ b. bit_xor b pad) s

module _ (H : Hash) where
  -- zeros behind a string, up to one block
  unfoldable pub filled : List ℕ → List ℕ
  filled s = s ++ replicate (block_bytes H - length s) 0x00

  -- table 1, steps 1 to 3: a key longer than a block is hashed first
  unfoldable pub key : List ℕ → Metered Key
  key K =
      let shortened : Metered (List ℕ) = hash H K in
      cond (leb (length K) (block_bytes H)) (return (record { bytes = K; K₀ = filled K }))
      (do
        s ← shortened
        return (record { bytes = K; K₀ = filled s }))

  -- table 1, steps 4 to 9
  unfoldable pub hmac : Key → List ℕ → Metered (List ℕ)
  hmac K text = do
    inner ← hash H (xored ipad K.K₀ ++ text)
    hash H (xored opad K.K₀ ++ inner)

  -- K = HMAC (K, text), made ready
  unfoldable pub rekey : Key → List ℕ → Metered Key
  rekey K text = do
    bytes ← hmac K text
    key bytes
