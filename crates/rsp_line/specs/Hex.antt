-- Bytes in hexadecimal digits, two a byte, the higher one first: 0 to 9 (48 to 57), a to f (97 to 102) or A to F (65 to 70).
use Rattle.std.specs.Prelude.{ℕ, ◌+◌, ◌-◌, ◌*◌, ◌%◌, Bool, true, ◌&&◌, cond, List, [], ◌∷◌, eqb, leb, ltb, length}

abbrev pub between : (least x most : ℕ) → Bool
between least x most = leb least x && leb x most

-- what a character is as a digit, 16 for one that is none
unfoldable pub digit_of : (c : ℕ) → ℕ
digit_of c = cond (between 48 c 57) (c - 48) (cond (between 97 c 102) (c - 87) (cond (between 65 c 70) (c - 55) 16))

unfoldable pub all_digits : List ℕ → Bool
all_digits [] = true
all_digits (c ∷ s) = ltb (digit_of c) 16 && all_digits s

-- whole bytes
unfoldable pub is_hex : List ℕ → Bool
is_hex s = eqb (length s % 2) 0 && all_digits s

unfoldable pub bytes_of : List ℕ → List ℕ
bytes_of [] = []
bytes_of (high ∷ []) = []
bytes_of (high ∷ low ∷ s) = (16 * digit_of high + digit_of low) ∷ bytes_of s
