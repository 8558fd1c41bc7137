-- Numbers in decimal digits and bytes in hexadecimal ones. The digits 0 to 9 are 48 to 57, the letters a to f are 97 to 102.
use Rattle.std.specs.Prelude.{ℕ, zero, suc, ◌+◌, ◌/◌, ◌%◌, cond, List, [], ◌∷◌, ◌++◌, ltb}

-- of a number below 16, lower-case
unfoldable pub digit : ℕ → ℕ
digit d = cond (ltb d 10) (48 + d) (87 + d)

-- at most n digits; 64 bits have at most twenty
unfoldable pub digits : (n v : ℕ) → List ℕ
digits zero v = []
digits (suc n) v = cond (ltb v 10) (digit v ∷ []) (digits n (v / 10) ++ (digit (v % 10) ∷ []))

unfoldable pub decimal : ℕ → List ℕ
decimal v = digits 20 v

-- two digits a byte
unfoldable pub hex : List ℕ → List ℕ
hex [] = []
hex (b ∷ s) = digit (b / 16) ∷ digit (b % 16) ∷ hex s
