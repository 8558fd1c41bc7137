-- Bytes that are zero: as numbers, and as a slot. Assumes nothing.
use Rattle.slots.specs.Sizes.{field_size, strength_at, interval_at, counter_at, fresh_at, serial_at, first_at, second_at, slot_size}
use Rattle.std.proofs.Common.{◌≡◌, ℕ, zero, suc, ◌+◌, ◌*◌, ◌^◌, ◌<◌, Bool, ◌&&◌, eqb, List, [], ◌∷◌, reverse, length}
use Rattle.std.proofs.Common.{get_or, take, drop, drop-cons, drop-drop, sym, refl, ap, ◌∙◌, ap₂, le_of_eq, suc-mul, zero-add, zero-mul}
use Rattle.std.proofs.Common.{arith, tests, lit<, take_all, ne_eqb}
use Rattle.std.proofs.lemmas.List.{drop-take}
use mathlib.Core.List.{reverse-cons}
use native.Mathlib.Nat.{one-le-pow}
use lib.Dec.{eqb-suc-zero}
use Rattle.standard.specs.Strings.{number_of}
use Rattle.slots.specs.Sound.{all_zero, free_sound}
use Rattle.slots.specs.Slots.{slot_from}
use Rattle.slots.proofs.Zeros.{all_zero-append}
use Rattle.slots.specs.Numbers.{part, from_little_endian}
use Rattle.slots.proofs.LittleEndian.{part_join, length_part}

all_zero-reverse : (s : List ℕ) → all_zero (reverse s) ≡ all_zero s
unfolding all_zero
all_zero-reverse [] = refl
all_zero-reverse (b ∷ s) = grind (arith, tests, reverse-cons b s, all_zero-append (reverse s) (b ∷ []), all_zero-reverse s)

-- a number is zero when each of its bytes is
some_byte : (b p n : ℕ) → 0 < p → suc b * p + n ≡ 0 → ⊥
some_byte b p n room h = omega (arith, suc-mul b p)

number-zero : (s : List ℕ) → eqb (number_of s) 0 ≡ all_zero s
unfolding number_of all_zero
number-zero [] = refl
number-zero (zero ∷ s) = ap (λ n. eqb n 0) (ap (λ k. k + number_of s) (zero-mul (256 ^ length s)) ∙ zero-add (number_of s)) ∙ number-zero s
number-zero (suc b ∷ s) =
    ne_eqb (suc b * 256 ^ length s + number_of s) 0 (some_byte b (256 ^ length s) (number_of s) (one-le-pow (length s) 256 (lit< tt))) ∙
    ap (λ z. z && all_zero s) (sym (eqb-suc-zero b))

zero-bytes : (s : List ℕ) → eqb (from_little_endian s) 0 ≡ all_zero s
unfolding from_little_endian
zero-bytes s = number-zero (reverse s) ∙ all_zero-reverse s

-- parts of zeros, one behind the other
zeros_join : (at m n : ℕ) (s : List ℕ) → all_zero (part at (m + n) s) ≡ (all_zero (part at m s) && all_zero (part (at + m) n s))
zeros_join at m n s = ap all_zero (part_join at m n s) ∙ all_zero-append (part at m s) (part (at + m) n s)

-- 23 of them as two sixteens, which share nine
share : (x y z : Bool) → (x && y && (y && z)) ≡ (x && (y && z))
share x y z = grind (arith, tests)

zeros-23 : (at : ℕ) (s : List ℕ) → (all_zero (part at 16 s) && all_zero (part (at + 7) 16 s)) ≡ all_zero (part at 23 s)
zeros-23 at s =
    ap₂ ◌&&◌ (zeros_join at 7 9 s) (zeros_join (at + 7) 9 7 s) ∙
    share (all_zero (part at 7 s)) (all_zero (part (at + 7) 9 s)) (all_zero (part (at + 7 + 9) 7 s)) ∙
    ap (λ z. all_zero (part at 7 s) && z) (sym (zeros_join (at + 7) 9 7 s)) ∙
    sym (zeros_join at 7 16 s)

-- those behind K or V in the field at `at`, as two numbers
pub zero_rest : (at : ℕ) (s : List ℕ) {low high : ℕ} → low ≡ from_little_endian (part (at + 32) 16 s)
    → high ≡ from_little_endian (part (at + 39) 16 s) → (eqb low 0 && eqb high 0) ≡ all_zero (drop 32 (part at field_size s))
zero_rest at s is-low is-high =
    let second : at + 39 ≡ at + 32 + 7 = omega arith in
    ap₂ (λ a b. eqb a 0 && eqb b 0) is-low (is-high ∙ ap (λ k. from_little_endian (part k 16 s)) second) ∙
    ap₂ ◌&&◌ (zero-bytes (part (at + 32) 16 s)) (zero-bytes (part (at + 32 + 7) 16 s)) ∙
    zeros-23 (at + 32) s ∙
    ap all_zero (sym (drop-take 32 23 (drop at s) ∙ ap (take 23) (drop-drop 32 at s)))

-- a slot's bytes are zero when it is free
module _ (s : List ℕ) (sized : length s ≡ slot_size) where
  zero_more : {front field : Bool} (m n : ℕ) → all_zero (part 0 m s) ≡ front → all_zero (part m n s) ≡ field
      → all_zero (part 0 (m + n) s) ≡ (front && field)
  zero_more m n front field = zeros_join 0 m n s ∙ ap₂ ◌&&◌ front (ap (λ k. all_zero (part k n s)) (zero-add m) ∙ field)

  zero-byte : (at : ℕ) → at < slot_size → all_zero (part at 1 s) ≡ eqb (get_or s at 0) 0
  unfolding all_zero
  zero-byte at room = grind (arith, tests, drop-cons s at 0)

  zero_number : (at n : ℕ) → all_zero (part at n s) ≡ eqb (from_little_endian (part at n s)) 0
  zero_number at n = sym (zero-bytes (part at n s))

  pub blank : all_zero s ≡ free_sound (slot_from s)
  unfolding free_sound slot_from
  blank =
      let f1 = zero-byte 0 (omega arith) in
      let f2 = zero_more strength_at 2 f1 (zero_number strength_at 2) in
      let f3 = zero_more interval_at 8 f2 (zero_number interval_at 8) in
      let f4 = zero_more counter_at 8 f3 (zero_number counter_at 8) in
      let f5 = zero_more fresh_at 1 f4 (zero-byte fresh_at (omega arith)) in
      let f6 = zero_more serial_at 4 f5 (zero_number serial_at 4) in
      let f7 = zero_more first_at field_size f6 refl in
      let f8 = zero_more second_at field_size f7 refl in
      let first = length_part first_at field_size s (omega (arith, sized)) in
      let second = length_part second_at field_size s (omega (arith, sized)) in
      ap all_zero (sym (take_all slot_size s (le_of_eq sized))) ∙ f8 ∙ rw (first, second)
