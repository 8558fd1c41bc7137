-- V's only block laid in a lane, word by word. Assumes nothing.
use mathlib.Core.Path.{◌≡◌, sym, ap, ap₂, ◌∙◌}
use mathlib.Core.List.{List, [], ◌∷◌, ◌++◌, append_assoc}
use Prim.Native.Nat.{ℕ, suc, ◌+◌, ◌*◌, ◌/◌, ◌%◌, ◌<◌}
use native.Mathlib.Nat.{mod-eq_of_lt}
use native.Mathlib.Omega.{arith}
use lib.ListN.{length, get_or, take, drop, set}
use lib.Seq.{split_at, take_at, drop_at, drop-drop}
use Rattle.standard.specs.Strings.{number_of, bytes_of}
use Rattle.standard.specs.Hash.{word_at, schedule}
use Rattle.standard.specs.Sha256.{sha256}
use Rattle.standard.proofs.Hash.{schedule-own}
use Rattle.standard.proofs.Strings.{bytes_of-add, length-bytes_of, number_of-bytes_of}
use Rattle.compression.proofs.Stores.{take_more_set}
use Rattle.sums.specs.Limbs.{string_of}
use Rattle.hashgen.specs.Turns.{block_end}
use Rattle.sums.proofs.Limbs.{string_of-append, string_of-cons, length-first}

-- word t of a block, put behind the first t words of its lane
pub word_put : (words p block : List ℕ) (base t at x : ℕ) → at ≡ base + t → base + t < length words → t < 16 → x ≡ word_at sha256 block t
    → take (base + t) words ≡ p ++ schedule sha256 block t → take (base + (t + 1)) (set words at x) ≡ p ++ schedule sha256 block (t + 1)
word_put words p block base t at x at-is room few x-is so_far =
    let next : base + (t + 1) ≡ base + t + 1 = omega arith in
    ap₂ (λ n m. take n (set words m x)) next at-is ∙
    take_more_set words (base + t) x room ∙
    ap₂ (λ q y. q ++ (y ∷ [])) so_far x-is ∙
    append_assoc p (schedule sha256 block t) (word_at sha256 block t ∷ []) ∙
    ap (λ q. p ++ q) (sym (schedule-own sha256 block t few))

-- word t of a string, from the four bytes behind the first 4 * t
word_behind : (s rest : List ℕ) (t at x : ℕ) → 4 * t ≡ at → drop at s ≡ bytes_of 4 x ++ rest → word_at sha256 s t ≡ x % 4294967296
unfolding word_at
word_behind s rest t at x place behind =
    ap (λ n. number_of (take 4 (drop n s))) place ∙
    ap (λ r. number_of (take 4 r)) behind ∙
    ap number_of (take_at (bytes_of 4 x) rest 4 (length-bytes_of 4 x)) ∙
    number_of-bytes_of 4 x

-- a limb's two words
module _ (limbs : List ℕ) (i : ℕ) (inside : i < length limbs) (tail : List ℕ) where
  limb_behind : drop (8 * i) (string_of limbs ++ tail)
      ≡ bytes_of 4 (get_or limbs i 0 / 4294967296) ++ (bytes_of 4 (get_or limbs i 0) ++ (string_of (drop (suc i) limbs) ++ tail))
  limb_behind =
      let x = get_or limbs i 0 in
      let before = string_of (take i limbs) in
      let after = string_of (drop (suc i) limbs) in
      let split : string_of limbs ≡ before ++ (bytes_of 8 x ++ after) =
      ap string_of (split_at limbs i 0 inside) ∙
      string_of-append (take i limbs) (x ∷ drop (suc i) limbs) ∙
      ap (λ s. before ++ s) (string_of-cons x (drop (suc i) limbs)) in
      ap (λ s. drop (8 * i) (s ++ tail)) split ∙
      ap (drop (8 * i)) (append_assoc before (bytes_of 8 x ++ after) tail) ∙
      drop_at before ((bytes_of 8 x ++ after) ++ tail) (8 * i) (length-first limbs i inside) ∙
      append_assoc (bytes_of 8 x) after tail ∙
      ap (λ b. b ++ (after ++ tail)) (bytes_of-add 4 4 x) ∙
      append_assoc (bytes_of 4 (x / 4294967296)) (bytes_of 4 x) (after ++ tail)

  pub high_word : get_or limbs i 0 / 4294967296 < 4294967296
      → word_at sha256 (string_of limbs ++ tail) (2 * i) ≡ get_or limbs i 0 / 4294967296
  high_word small =
      let place : 4 * (2 * i) ≡ 8 * i = omega arith in
      word_behind (string_of limbs ++ tail) (bytes_of 4 (get_or limbs i 0) ++ (string_of (drop (suc i) limbs) ++ tail)) (2 * i) (8 * i)
      (get_or limbs i 0 / 4294967296) place limb_behind ∙
      mod-eq_of_lt small

  pub low_word : word_at sha256 (string_of limbs ++ tail) (2 * i + 1) ≡ get_or limbs i 0 % 4294967296
  low_word =
      let x = get_or limbs i 0 in
      let place : 4 * (2 * i + 1) ≡ 8 * i + 4 = omega arith in
      word_behind (string_of limbs ++ tail) (string_of (drop (suc i) limbs) ++ tail) (2 * i + 1) (8 * i + 4) x place
      (sym (drop-drop 4 (8 * i) (string_of limbs ++ tail)) ∙
      ap (drop 4) limb_behind ∙
      drop_at (bytes_of 4 (x / 4294967296)) (bytes_of 4 x ++ (string_of (drop (suc i) limbs) ++ tail)) 4 (length-bytes_of 4
      (x / 4294967296)))

-- the two words behind the limbs: zero, and the length in bits
module _ (s : List ℕ) (size : length s ≡ 56) where
  pub zero_word : word_at sha256 (s ++ block_end) 14 ≡ 0
  unfolding word_at number_of
  zero_word = ap (λ r. number_of (take 4 r)) (drop_at s block_end 56 size)

  pub length_word : word_at sha256 (s ++ block_end) 15 ≡ 440
  unfolding word_at number_of
  length_word =
      ap (λ r. number_of (take 4 r))
      (sym (drop-drop 4 56 (s ++ block_end)) ∙
      ap (drop 4) (drop_at s block_end 56 size))
