-- A word of four bytes, read byte by byte: the first byte is the highest. Assumes nothing.
use Rattle.std.proofs.Common.{◌≡◌, ℕ, ◌+◌, ◌*◌, ◌<◌, ◌≤◌, List, [], ◌∷◌, length, get_or, take, drop, ap, ◌∙◌, add-one, arith, drop-cons}
use Rattle.standard.specs.Strings.{number_of}
use Rattle.standard.specs.Hash.{word_at}
use Rattle.standard.specs.Sha256.{sha256}

pub drop_more : (s : List ℕ) (i : ℕ) → i < length s → drop i s ≡ get_or s i 0 ∷ drop (i + 1) s
drop_more s i h = rw (add-one, drop-cons s i 0)

four_bytes : (s : List ℕ) (i : ℕ) → i + 4 ≤ length s
    → take 4 (drop i s) ≡ get_or s i 0 ∷ get_or s (i + 1) 0 ∷ get_or s (i + 1 + 1) 0 ∷ get_or s (i + 1 + 1 + 1) 0 ∷ []
four_bytes s i h =
    ap (take 4)
    (drop_more s i (omega arith) ∙
    ap (λ r. get_or s i 0 ∷ r)
    (drop_more s (i + 1) (omega arith) ∙
    ap (λ r. get_or s (i + 1) 0 ∷ r)
    (drop_more s (i + 1 + 1) (omega arith) ∙ ap (λ r. get_or s (i + 1 + 1) 0 ∷ r) (drop_more s (i + 1 + 1 + 1) (omega arith)))))

pub word_at-bytes : (s : List ℕ) (t : ℕ) → 4 * t + 4 ≤ length s
    → word_at sha256 s t ≡ get_or s (4 * t) 0 * 16777216 + get_or s (4 * t + 1) 0 * 65536 + get_or s (4 * t + 2) 0 * 256 + get_or s
    (4 * t + 3) 0
unfolding word_at number_of
word_at-bytes s t h =
    let at₂ : 4 * t + 1 + 1 ≡ 4 * t + 2 = omega arith in
    let at₃ : 4 * t + 1 + 1 + 1 ≡ 4 * t + 3 = omega arith in
    ap number_of (four_bytes s (4 * t) h) ∙ rw (at₃, at₂) (omega arith)
