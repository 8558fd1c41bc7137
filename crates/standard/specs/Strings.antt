-- Strings of whole bytes, and numbers as strings: FIPS 180-4 §3.1, SP 800-90A appendix A.
-- Differs from the documents: a string is a list of bytes and not of bits; a byte is a number, and `Bytes` says that it is below 256.
use Rattle.std.specs.Prelude.{ℕ, zero, suc, ◌+◌, ◌-◌, ◌*◌, ◌/◌, ◌%◌, ◌^◌, ◌<◌, List, [], ◌∷◌, ◌++◌, length, get_or}

-- a string of bytes: every number in it is below 256, as 0 is beyond its end
pub record Bytes (s : List ℕ) : Type 0 where
  pub at : (i : ℕ) → get_or s i 0 < 256

-- the number that a string is, its first byte being the highest (FIPS 180-4 §3.1, 3 and 4)
unfoldable pub number_of : List ℕ → ℕ
number_of [] = 0
number_of (b ∷ s) = b * 256 ^ length s + number_of s

-- a number modulo 2^(8 k) as a string of k bytes
unfoldable pub bytes_of : (k n : ℕ) → List ℕ
bytes_of zero n = []
bytes_of (suc k) n = bytes_of k (n / 256) ++ (n % 256 ∷ [])

-- ⌈ n / d ⌉
unfoldable pub ceiling : (n d : ℕ) → ℕ
ceiling n d = (n + (d - 1)) / d

-- what the standard writes as 'if (s ≠ Null)': the first way for the empty string, the second for any other
unfoldable pub if_null : {A : Type 0} → List ℕ → A → A → A
if_null [] empty other = empty
if_null (b ∷ s) empty other = other
