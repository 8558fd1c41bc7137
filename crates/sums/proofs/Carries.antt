-- Sums of long numbers, one limb after the other from the right, with a carry. Assumes nothing.
use Rattle.std.proofs.Common.{◌≡◌, ℕ, zero, suc, ◌+◌, ◌*◌, ◌/◌, ◌%◌, ◌^◌, ◌<◌, ltb, List, [], ◌∷◌, ◌++◌, length}
use Rattle.std.proofs.Common.{get_or, take, drop, set, replicate, sym, refl, ap, ◌∙◌, ap₂, append_assoc, append-nil, le_of_eq, add-zero}
use Rattle.std.proofs.Common.{add-mul, div-add-mod', zero-mul, add-one, arith, lit<, length-set, drop_of_length-le, take_all, drop-cons}
use Rattle.std.proofs.Common.{get_or-set_same, take_at, drop-set-lt, le-ltb, lt-ltb}
use Rattle.std.specs.Int.{from_bool}
use native.Mathlib.Nat.{mul-add-div_right, one-le-pow}
use native.Mathlib.Decide.{dec_lt}
use Rattle.standard.specs.Strings.{number_of, bytes_of}
use Rattle.standard.proofs.Strings.{number_of-append, number_of-bytes_of, bytes_of-add, bytes_of_above, bytes_of_mod, length-bytes_of}
use Rattle.sums.specs.Limbs.{string_of}
use Rattle.sums.proofs.Limbs.{string_of-cons, number_of-more}

-- two limbs of k bytes and a carry, behind a and b: what is left in their place, and what is carried on
limb_added : (k at a b x y carry : ℕ)
    → bytes_of (at + k) (a * 256 ^ k + x + (b * 256 ^ k + y) + carry)
    ≡ bytes_of at (a + b + (x + y + carry) / 256 ^ k) ++ bytes_of k ((x + y + carry) % 256 ^ k)
limb_added k at a b x y carry =
    let total = x + y + carry in
    ap (bytes_of (at + k)) (gathered (256 ^ k)) ∙
    bytes_of-add at k ((a + b) * 256 ^ k + total) ∙
    ap₂ ◌++◌ (ap (bytes_of at) (mul-add-div_right (one-le-pow k 256 (lit< tt)) (a + b) total))
    (bytes_of_above (a + b) k total ∙ sym (bytes_of_mod k total))
  where
    gathered : (p : ℕ) → a * p + x + (b * p + y) + carry ≡ (a + b) * p + (x + y + carry)
    gathered p = rw add-mul (omega arith)

-- the limbs from i + 1 on are those of the sum; limb i too
pub limb_done : (a b l s : List ℕ) (i carry low high : ℕ) → i < length a → i < length b → i < length l
    → get_or a i 0 < 2 ^ 64 → get_or b i 0 < 2 ^ 64
    → low ≡ (get_or a i 0 + get_or b i 0 + carry) % 2 ^ 64 → high ≡ (get_or a i 0 + get_or b i 0 + carry) / 2 ^ 64
    → s
    ≡ bytes_of (8 * (i + 1)) (number_of (string_of (take (i + 1) a)) + number_of (string_of (take (i + 1) b)) + carry) ++
    string_of (drop (i + 1) l)
    → s ≡ bytes_of (8 * i) (number_of (string_of (take i a)) + number_of (string_of (take i b)) + high) ++ string_of (drop i (set l i low))
limb_done a b l s i carry low high in-a in_b in-l small-a small_b low-is high_is so_far =
    let A = number_of (string_of (take i a)) in
    let B = number_of (string_of (take i b)) in
    let further : 8 * (i + 1) ≡ 8 * i + 8 = omega arith in
    let here : drop i (set l i low) ≡ low ∷ drop (i + 1) l =
    drop-cons (set l i low) i 0 (simp length-set in-l) ∙
    ap₂ (λ x r. x ∷ r) (get_or-set_same l i low 0 in-l)
    (ap (λ n. drop n (set l i low)) (sym (add-one i)) ∙ drop-set-lt (i + 1) l i low (omega arith)) in
    let numbers = ap₂ (λ x y. x + y + carry) (number_of-more a i in-a small-a) (number_of-more b i in_b small_b) in
    let added =
    limb_added 8 (8 * i) A B (get_or a i 0) (get_or b i 0) carry ∙
    ap₂ (λ x y. bytes_of (8 * i) (A + B + x) ++ bytes_of 8 y) (sym high_is) (sym low-is) in
    so_far ∙
    ap₂ (λ n x. bytes_of n x ++ string_of (drop (i + 1) l)) further numbers ∙
    ap (λ p. p ++ string_of (drop (i + 1) l)) added ∙
    append_assoc (bytes_of (8 * i) (A + B + high)) (bytes_of 8 low) (string_of (drop (i + 1) l)) ∙
    ap (λ r. bytes_of (8 * i) (A + B + high) ++ r) (sym (ap string_of here ∙ string_of-cons low (drop (i + 1) l)))

-- before the first limb, and behind the last
pub limbs_all : (a b : List ℕ) → length a ≡ 7 → length b ≡ 7
    → bytes_of 56 (number_of (string_of a) + number_of (string_of b))
    ≡ bytes_of 56 (number_of (string_of (take 7 a)) + number_of (string_of (take 7 b)) + 0) ++ string_of (drop 7 a)
unfolding string_of
limbs_all a b a-long b-long =
    let none = drop_of_length-le a (le_of_eq a-long) in
    sym (rw (take_all 7 a (le_of_eq a-long), take_all 7 b (le_of_eq b-long), none, add-zero) (append-nil _))

pub limbs_none : (s l : List ℕ) (n : ℕ) → s ≡ bytes_of 0 n ++ string_of l → s ≡ string_of l
unfolding bytes_of
limbs_none s l n h = h

-- a sum that wraps is below each of its parts
pub carried : (a b sum : ℕ) → a < 2 ^ 64 → b < 2 ^ 64 → sum ≡ (a + b) % 2 ^ 64 → from_bool (ltb sum a) ≡ (a + b) / 2 ^ 64
carried a b sum small-a small_b sum-is = go (dec_lt (a + b) (2 ^ 64))
  where
    go : Dec (a + b < 2 ^ 64) → from_bool (ltb sum a) ≡ (a + b) / 2 ^ 64
    go (yes whole) = rw (le-ltb sum a (omega arith)) (omega arith)
    go (no wraps) = rw (lt-ltb sum a (omega (arith, wraps))) (omega (arith, wraps))

pub carried_twice : (a b carry sum : ℕ) → sum ≡ (a + b) % 2 ^ 64 → (a + b) / 2 ^ 64 + (sum + carry) / 2 ^ 64 ≡ (a + b + carry) / 2 ^ 64
carried_twice a b carry sum sum-is = omega arith

-- two limbs and a carry, added by two sums that may wrap: what is left, and what the two comparisons carry on
pub limbs_added : (a b carry low last first second : ℕ) → first ≡ from_bool (ltb low a) → second ≡ from_bool (ltb last low)
    → a < 2 ^ 64 → b < 2 ^ 64 → carry < 2 ^ 64 → low ≡ (a + b) % 2 ^ 64 → last ≡ (low + carry) % 2 ^ 64
    → (last ≡ (a + b + carry) % 2 ^ 64) × (first + second ≡ (a + b + carry) / 2 ^ 64)
limbs_added a b carry low last first second first-is second-is small-a small_b small_carry low-is last-is = (
  omega arith,
  ap₂ ◌+◌ (first-is ∙ carried a b low small-a small_b low-is) (second-is ∙ carried low carry last (omega arith) small_carry last-is) ∙
      carried_twice a b carry low low-is,
)

-- zeros before a number
number_of-zeros : (k n : ℕ) → number_of (take k (replicate n 0)) ≡ 0
unfolding number_of
number_of-zeros zero n = refl
number_of-zeros (suc k) zero = refl
number_of-zeros (suc k) (suc n) = ap₂ ◌+◌ (zero-mul (256 ^ length (take k (replicate n 0)))) (number_of-zeros k n)

pub number_of_widened : (k n : ℕ) (s : List ℕ) → number_of (take k (replicate n 0) ++ s) ≡ number_of s
number_of_widened k n s =
    number_of-append (take k (replicate n 0)) s ∙ ap (λ z. z * 256 ^ length s + number_of s) (number_of-zeros k n) ∙ omega arith

-- a number and a byte behind it
pub number_of-behind : (s t : List ℕ) (b : ℕ) → t ≡ s ++ (b ∷ []) → number_of t ≡ number_of s * 256 + b
unfolding number_of
number_of-behind s t b t-is = ap number_of t-is ∙ number_of-append s (b ∷ []) ∙ omega arith

bytes_of-behind : (k n b : ℕ) → b < 256 → bytes_of (suc k) (n * 256 + b) ≡ bytes_of k n ++ (b ∷ [])
unfolding bytes_of
bytes_of-behind k n b small =
    let above : (n * 256 + b) / 256 ≡ n = omega arith in
    let below : (n * 256 + b) % 256 ≡ b = omega arith in
    rw (above, below)

-- a sum that was cut to k bytes, and one more
pub bytes_of-cut : (k a b : ℕ) → bytes_of k (a % 256 ^ k + b) ≡ bytes_of k (a + b)
bytes_of-cut k a b =
    let whole : a / 256 ^ k * 256 ^ k + (a % 256 ^ k + b) ≡ a + b = omega (arith, div-add-mod' a (256 ^ k)) in
    sym (bytes_of_above (a / 256 ^ k) k (a % 256 ^ k + b)) ∙ ap (bytes_of k) whole

-- the number 1 before a byte
number-one : number_of (string_of (0 ∷ 0 ∷ 0 ∷ 0 ∷ 0 ∷ 0 ∷ 256 ∷ [])) ≡ 256
unfolding number_of string_of bytes_of
number-one = refl

-- the next data of Hashgen: 1 is added before the byte behind V
pub one_more : (v next further : List ℕ) → next ≡ v ++ (128 ∷ [])
    → further ≡ bytes_of 56 (number_of next + number_of (string_of (0 ∷ 0 ∷ 0 ∷ 0 ∷ 0 ∷ 0 ∷ 256 ∷ [])))
    → further ≡ bytes_of 55 (number_of v + 1) ++ (128 ∷ [])
one_more v next further next-is further-is =
    let sum : number_of next + 256 ≡ (number_of v + 1) * 256 + 128 = omega (arith, number_of-behind v next 128 next-is) in
    further-is ∙
    ap (λ n. bytes_of 56 (number_of next + n)) number-one ∙
    ap (bytes_of 56) sum ∙
    bytes_of-behind 55 (number_of v + 1) 128 (lit< tt)

-- two numbers with a byte 0 behind each, and one more
pub sum_first : (s t total v n : List ℕ) → total ≡ bytes_of 56 (number_of s + number_of t) → s ≡ v ++ (0 ∷ []) → t ≡ n ++ (0 ∷ [])
    → total ≡ bytes_of 56 ((number_of v + number_of n) * 256)
sum_first s t total v n total-is s-is t-is =
    let sum : number_of v * 256 + 0 + (number_of n * 256 + 0) ≡ (number_of v + number_of n) * 256 = omega arith in
    total-is ∙ ap₂ (λ a b. bytes_of 56 (a + b)) (number_of-behind v s 0 s-is) (number_of-behind n t 0 t-is) ∙ ap (bytes_of 56) sum

pub sum_more : (s t total n : List ℕ) (x : ℕ) → total ≡ bytes_of 56 (number_of s + number_of t) → s ≡ bytes_of 56 (x * 256)
    → t ≡ n ++ (0 ∷ [])
    → total ≡ bytes_of 56 ((x + number_of n) * 256)
sum_more s t total n x total-is s-is t-is =
    let cut : number_of s ≡ x * 256 % 256 ^ 56 = ap number_of s-is ∙ number_of-bytes_of 56 (x * 256) in
    let sum : x * 256 + (number_of n * 256 + 0) ≡ (x + number_of n) * 256 = omega arith in
    total-is ∙
    ap₂ (λ a b. bytes_of 56 (a + b)) cut (number_of-behind n t 0 t-is) ∙
    bytes_of-cut 56 (x * 256) (number_of n * 256 + 0) ∙
    ap (bytes_of 56) sum

-- the sum without the byte behind it
pub sum_whole : (s r : List ℕ) (x y : ℕ) → r ≡ take 55 s → s ≡ bytes_of 56 (x * 256) → x ≡ y → r ≡ bytes_of 55 y
sum_whole s r x y r-is s-is x-is =
    let split : bytes_of 56 (x * 256) ≡ bytes_of 55 x ++ (0 ∷ []) =
    ap (bytes_of 56) (sym (add-zero (x * 256))) ∙ bytes_of-behind 55 x 0 (lit< tt) in
    r-is ∙ ap (take 55) (s-is ∙ split) ∙ take_at (bytes_of 55 x) (0 ∷ []) 55 (length-bytes_of 55 x) ∙ ap (bytes_of 55) x-is

-- a hash alone is added
pub sum_alone : (v h : List ℕ)
    → bytes_of 55 (number_of v + (number_of h + number_of (replicate 55 0) + 0)) ≡ bytes_of 55 (number_of v + number_of h)
unfolding number_of
sum_alone v h = ap (bytes_of 55) (alone (number_of v) (number_of h))
  where
    alone : (a b : ℕ) → a + (b + 0 + 0) ≡ a + b
    alone a b = omega arith
