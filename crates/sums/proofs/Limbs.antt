-- Limbs of eight bytes: the string that they are, read and put one after the other. Assumes nothing.
use Rattle.std.proofs.Common.{◌≡◌, ℕ, zero, suc, ◌+◌, ◌*◌, ◌^◌, ◌<◌, ◌≤◌, List, [], ◌∷◌, ◌++◌, length, get_or, take, drop, sym}
use Rattle.std.proofs.Common.{refl, ap, ◌∙◌, ap₂, append_assoc, append-nil, mod-eq_of_lt, arith, length-append}
use Rattle.std.proofs.Common.{length-take-le, take_all, add-one, drop-drop, take_at, take-add, drop_at}
use lib.Seq.{paste}
use Rattle.standard.specs.Strings.{number_of, bytes_of}
use Rattle.standard.proofs.Strings.{length-bytes_of, number_of-append, number_of-bytes_of}
use Rattle.compression.proofs.Stores.{take_more}
use Rattle.sums.specs.Limbs.{string_of, value_in, Marked}
use Rattle.copies.proofs.Pasted.{pasted}

pub string_of-append : (l m : List ℕ) → string_of (l ++ m) ≡ string_of l ++ string_of m
unfolding string_of
string_of-append [] m = refl
string_of-append (x ∷ l) m = ap (λ s. bytes_of 8 x ++ s) (string_of-append l m) ∙
    sym (append_assoc (bytes_of 8 x) (string_of l) (string_of m))

string_of-one : (x : ℕ) → string_of (x ∷ []) ≡ bytes_of 8 x
unfolding string_of
string_of-one x = append-nil (bytes_of 8 x)

pub string_of-cons : (x : ℕ) (l : List ℕ) → string_of (x ∷ l) ≡ bytes_of 8 x ++ string_of l
unfolding string_of
string_of-cons x l = refl

string_of-behind : (l : List ℕ) (x : ℕ) → string_of (l ++ (x ∷ [])) ≡ string_of l ++ bytes_of 8 x
string_of-behind l x = string_of-append l (x ∷ []) ∙ ap (λ s. string_of l ++ s) (string_of-one x)

pub length-string_of : (l : List ℕ) → length (string_of l) ≡ 8 * length l
unfolding string_of
length-string_of [] = refl
length-string_of (x ∷ l) = eight_more (bytes_of 8 x) (string_of l) (length l) (length-bytes_of 8 x) (length-string_of l)
  where
    eight_more : (s t : List ℕ) (n : ℕ) → length s ≡ 8 → length t ≡ 8 * n → length (s ++ t) ≡ 8 * suc n
    eight_more s t n s-size t-size = length-append s t ∙ omega arith

module _ (l : List ℕ) (i : ℕ) (inside : i < length l) where
  pub string_of-more : string_of (take (i + 1) l) ≡ string_of (take i l) ++ bytes_of 8 (get_or l i 0)
  string_of-more = ap string_of (take_more l i inside) ∙ string_of-behind (take i l) (get_or l i 0)

  pub length-first : length (string_of (take i l)) ≡ 8 * i
  length-first = length-string_of (take i l) ∙ ap (λ n. 8 * n) (length-take-le i l (omega arith))

  -- the number that one limb more makes
  pub number_of-more : get_or l i 0 < 2 ^ 64 → number_of (string_of (take (i + 1) l))
      ≡ number_of (string_of (take i l)) * 256 ^ 8 + get_or l i 0
  number_of-more small =
      ap number_of string_of-more ∙
      number_of-append (string_of (take i l)) (bytes_of 8 (get_or l i 0)) ∙
      ap₂ (λ n x. number_of (string_of (take i l)) * 256 ^ n + x) (length-bytes_of 8 (get_or l i 0))
      (number_of-bytes_of 8 (get_or l i 0) ∙ mod-eq_of_lt small)

  -- one limb more is put
  pub limbs_put : (first block next bytes : List ℕ) → bytes ≡ bytes_of 8 (get_or l i 0) → next ≡ paste block (8 * i) bytes (length bytes)
      → block ≡ string_of (take i l) ++ drop (8 * i) first → next ≡ string_of (take (i + 1) l) ++ drop (8 * (i + 1)) first
  limbs_put first block next bytes bytes-are next-is so_far =
      let before = string_of (take i l) in
      let size : length bytes ≡ 8 = ap length bytes-are ∙ length-bytes_of 8 (get_or l i 0) in
      let further : 8 * i + 8 ≡ 8 * (i + 1) = omega arith in
      let rest : drop (8 * i + 8) block ≡ drop (8 * (i + 1)) first =
      sym (drop-drop 8 (8 * i) block) ∙
      ap (drop 8) (ap (drop (8 * i)) so_far ∙ drop_at before (drop (8 * i) first) (8 * i) length-first) ∙
      drop-drop 8 (8 * i) first ∙
      ap (λ n. drop n first) further in
      next-is ∙
      pasted block bytes (8 * i) 8 size ∙
      ap₂ (λ p q. p ++ (bytes ++ q)) (ap (take (8 * i)) so_far ∙ take_at before (drop (8 * i) first) (8 * i) length-first) rest ∙
      sym (append_assoc before bytes (drop (8 * (i + 1)) first)) ∙
      ap (λ s. s ++ drop (8 * (i + 1)) first) (ap (λ b. before ++ b) bytes-are ∙ sym string_of-more)

-- a number and the byte behind it, found again
pub length-value_in : (l : List ℕ) → length l ≡ 7 → length (value_in l) ≡ 55
length-value_in l seven = length-take-le 55 (string_of l) (omega (arith, length-string_of l))

pub value-behind : (l v : List ℕ) (b : ℕ) → length l ≡ 7 → string_of l ≡ v ++ (b ∷ []) → value_in l ≡ v
value-behind l v b seven is =
    let size : length v ≡ 55 = omega (arith, ap length is, length-append v (b ∷ []), length-string_of l) in
    ap (take 55) is ∙ take_at v (b ∷ []) 55 size

pub marked_behind : (l v : List ℕ) → length l ≡ 7 → string_of l ≡ v ++ (128 ∷ []) → Marked l
marked_behind l v seven is = is ∙ ap (λ s. s ++ (128 ∷ [])) (sym (value-behind l v 128 seven is))

-- seven limbs read one after the other
module _ (limbs whole : List ℕ) (seven : length limbs ≡ 7)
    (each : (i : ℕ) → i < 7 → bytes_of 8 (get_or limbs i 0) ≡ take 8 (drop (8 * i) whole)) where
  first_read : (i : ℕ) → i ≤ 7 → string_of (take i limbs) ≡ take (8 * i) whole
  unfolding string_of
  first_read zero h = refl
  first_read (suc i) h =
      let next : 8 * (i + 1) ≡ 8 * i + 8 = omega arith in
      ap (λ n. string_of (take n limbs)) (sym (add-one i)) ∙
      string_of-more limbs i (omega arith) ∙
      ap₂ ◌++◌ (first_read i (omega arith)) (each i h) ∙
      sym (ap (λ n. take n whole) next ∙ take-add (8 * i) 8 whole) ∙
      ap (λ n. take (8 * n) whole) (add-one i)

  pub limbs_read : length whole ≡ 56 → string_of limbs ≡ whole
  limbs_read size = sym (ap string_of (take_all 7 limbs (omega arith))) ∙ first_read 7 (omega arith) ∙ take_all 56 whole (omega arith)
