-- Seven limbs of eight bytes, the first the highest: a number of 55 bytes, and one byte behind it.
use Rattle.std.specs.Prelude.{◌≡◌, ℕ, List, [], ◌∷◌, ◌++◌, take}
use Rattle.standard.specs.Strings.{bytes_of}

-- the string that the limbs are
unfoldable pub string_of : List ℕ → List ℕ
string_of [] = []
string_of (limb ∷ limbs) = bytes_of 8 limb ++ string_of limbs

-- the number's bytes
abbrev pub value_in : List ℕ → List ℕ
value_in limbs = take 55 (string_of limbs)

-- the byte behind them is the bit 1 that padding begins with
abbrev pub Marked : List ℕ → Type 0
Marked limbs = string_of limbs ≡ value_in limbs ++ (128 ∷ [])
