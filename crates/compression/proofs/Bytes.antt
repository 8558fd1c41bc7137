-- The library's conversions between numbers and bytes, the highest first, are the standard's. Assumes nothing.
use Rattle.std.proofs.Common.{◌≡◌, ℕ, zero, suc, ◌/◌, ◌%◌, ◌^◌, ◌<◌, List, ◌∷◌, length, refl, sym, ap, ◌∙◌, mod-eq_of_lt}
use Rattle.std.specs.Int.{bytes_high_first, from_be_bytes, w32}
use Rattle.std.proofs.lemmas.Nat.{be_bytes_4}
use Rattle.standard.specs.Strings.{Bytes, number_of, bytes_of}
use Rattle.standard.proofs.Strings.{bytes_of-cons, number_of-bytes_of}

pub high_first : (k n : ℕ) → bytes_high_first k n ≡ bytes_of k n
unfolding bytes_of
high_first zero n = refl
high_first (suc zero) n = refl
high_first (suc (suc k)) n = ap (λ r. n / 256 ^ suc k % 256 ∷ r) (high_first (suc k) n) ∙ sym (bytes_of-cons (suc k) n)

-- a word read from its four bytes
pub word_read : (s : List ℕ) (x : ℕ) → Bytes s → length s ≡ 4 → x < 2 ^ 32 → x ≡ from_be_bytes w32 s → x ≡ number_of s
word_read s x bytes four fits is =
    sym (number_of-bytes_of 4 x ∙ mod-eq_of_lt fits) ∙ ap number_of (sym (high_first 4 x) ∙ be_bytes_4 s x four bytes.at is)
