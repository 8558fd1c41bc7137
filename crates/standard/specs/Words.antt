-- FIPS 180-4 §2.2.2, 3.2 and 4.1.2, 4.1.3: operations on words of w bits.
-- Differs from the document: a word is a number (below 2^w, a law in proofs/); the rotation amounts are parameters, so that
-- 4.1.2 (SHA-256) and 4.1.3 (SHA-512) are one text.
use Rattle.std.specs.Prelude.{ℕ, ◌-◌, ◌*◌, ◌/◌, ◌%◌, ◌^◌}
use Rattle.std.specs.Int.Bits.{bit_and, bit_or, bit_xor}

-- §3.2, 3: the right shift
abbrev pub SHR : (n x : ℕ) → ℕ
SHR n x = x / 2 ^ n

-- §3.2, 4: the rotate right, (x >> n) ∨ (x << w - n)
abbrev pub ROTR : (w n x : ℕ) → ℕ
ROTR w n x = bit_or (x / 2 ^ n) (x * 2 ^ (w - n) % 2 ^ w)

-- §2.2.2: the bitwise complement
abbrev pub complement : (w x : ℕ) → ℕ
complement w x = 2 ^ w - 1 - x

-- §4.1.2 (4.2)
abbrev pub Ch : (w x y z : ℕ) → ℕ
Ch w x y z = bit_xor (bit_and x y) (bit_and (complement w x) z)

-- §4.1.2 (4.3)
abbrev pub Maj : (x y z : ℕ) → ℕ
Maj x y z = bit_xor (bit_xor (bit_and x y) (bit_and x z)) (bit_and y z)

-- the three amounts of one of the four functions Σ₀, Σ₁, σ₀, σ₁
pub record Amounts : Type 0 where
  pub first : ℕ
  pub second : ℕ
  pub third : ℕ

-- §4.1.2 (4.4) and (4.5): three rotations
abbrev pub Σ : (w : ℕ) → Amounts → ℕ → ℕ
Σ w n x = bit_xor (bit_xor (ROTR w n.first x) (ROTR w n.second x)) (ROTR w n.third x)

-- §4.1.2 (4.6) and (4.7): two rotations and a shift
abbrev pub σ : (w : ℕ) → Amounts → ℕ → ℕ
σ w n x = bit_xor (bit_xor (ROTR w n.first x) (ROTR w n.second x)) (SHR n.third x)
