-- Decimal digits one behind the other. Assumes nothing.
use Prim.Native.Nat.{ℕ, zero, suc, ◌+◌, ◌-◌, ◌*◌, ◌/◌, ◌%◌, ◌^◌, ◌<◌, ◌≤◌}
use mathlib.Core.Path.{◌≡◌, refl, ap, ◌∙◌}
use mathlib.Core.Bool.{Bool, true, false, cond, ◌&&◌}
use mathlib.Core.List.{List, [], ◌∷◌, ◌++◌}
use native.Mathlib.Decide.{dec_lt}
use native.Mathlib.Omega.{arith}
use borrow.Author.Tests.{lt-ltb, le-ltb}
use lib.Dec.{ltb}
use lib.ListN.{length, drop, get_or, drop_of_length-le}
use Rattle.std.specs.Prelude.{Some, None}
use Rattle.std.specs.Char.{digit_value}
use Rattle.std.proofs.lemmas.Bool.Decides.{nat_tests}
use Rattle.std.proofs.lemmas.Option.{same_Some, none-some}
use Rattle.text.specs.Digits.{digit, decimal}
use Rattle.text.proofs.Digits.{tenth_lt, decimal-one, decimal-more, length-one, length_more}
use Rattle.rsp_line.specs.Hex.{between}
use Rattle.rsp_line.specs.Decimal.{number_from, number_of}
use Rattle.rsp_line.proofs.Lists.{split}

pub number_starts : (s : List ℕ) → 0 < length s → number_of s ≡ number_from 0 s
unfolding number_of
number_starts [] h = absurd (omega arith)
number_starts (c ∷ s) h = refl

pub number_empty : (s : List ℕ) → length s ≡ 0 → number_of s ≡ None
unfolding number_of
number_empty [] h = refl
number_empty (c ∷ s) h = absurd (omega arith)

-- the library's value of a character as a digit
decimal-is : (c : ℕ) → digit_value c < 10 → between 48 c 57 ≡ true
decimal-is c h = grind (arith, nat_tests)

decimal-value : (c : ℕ) → digit_value c < 10 → c - 48 ≡ digit_value c
decimal-value c h = grind (arith, nat_tests)

decimal-none : (c : ℕ) → 10 ≤ digit_value c → between 48 c 57 ≡ false
decimal-none c h = grind (arith, nat_tests)

-- the character c behind digits that are v
module _ (s : List ℕ) (v i c : ℕ) (here : i < length s) (is : get_or s i 0 ≡ c) where
  digit-next : number_from v (drop i s)
      ≡ cond (between 48 c 57 && ltb (10 * v + (c - 48)) (2 ^ 64)) (number_from (10 * v + (c - 48)) (drop (i + 1) s)) None
  unfolding number_from
  digit-next = ap (number_from v) (split s i here ∙ ap (λ d. d ∷ drop (i + 1) s) is)

  pub no-digit : 10 ≤ digit_value c → number_from v (drop i s) ≡ None
  no-digit h = digit-next ∙ rw (decimal-none c h)

  -- the digit d
  module _ (d : ℕ) (digit : (digit_value c < 10) × (d ≡ digit_value c)) where
    digit-more : number_from v (drop i s)
        ≡ cond (ltb (10 * v + d) (2 ^ 64)) (number_from (10 * v + d) (drop (i + 1) s)) None
    digit-more = digit-next ∙ rw (decimal-is c digit.0, decimal-value c digit.0, ← digit.1) refl

    pub digit_fits : 10 * v + d < 2 ^ 64 → number_from v (drop i s) ≡ number_from (10 * v + d) (drop (i + 1) s)
    digit_fits fits = digit-more ∙ rw (lt-ltb (10 * v + d) (2 ^ 64) fits) refl

    pub digit_over : 2 ^ 64 ≤ 10 * v + d → number_from v (drop i s) ≡ None
    digit_over over = digit-more ∙ rw (le-ltb (10 * v + d) (2 ^ 64) over) refl

pub number-ends : (s : List ℕ) (v i : ℕ) → length s ≤ i → number_from v (drop i s) ≡ Some v
unfolding number_from
number-ends s v i h = ap (number_from v) (drop_of_length-le s h)

-- ---- a number that is written is read back

-- digits that are w, and then others
from_then : (u w : ℕ) (l rest : List ℕ) → number_from u l ≡ Some w → number_from u (l ++ rest) ≡ number_from w rest
unfolding number_from
from_then u w [] rest is = ap (λ k. number_from k rest) (same_Some u w is)
from_then u w (c ∷ l) rest is =
    go (between 48 c 57 && ltb (10 * u + (c - 48)) (2 ^ 64)) is (from_then (10 * u + (c - 48)) w l rest)
  where
    go : (b : Bool) → cond b (number_from (10 * u + (c - 48)) l) None ≡ Some w
        → (number_from (10 * u + (c - 48)) l ≡ Some w → number_from (10 * u + (c - 48)) (l ++ rest) ≡ number_from w rest)
        → cond b (number_from (10 * u + (c - 48)) (l ++ rest)) None ≡ number_from w rest
    go true is next = next is
    go false is next = absurd (none-some w is)

digit-value : (d : ℕ) → d < 10 → (digit_value (48 + d) < 10) × (d ≡ digit_value (48 + d))
digit-value d h = (grind (arith, nat_tests), grind (arith, nat_tests))

last-digit : (w d : ℕ) → d < 10 → 10 * w + d < 2 ^ 64 → number_from w (digit d ∷ []) ≡ Some (10 * w + d)
unfolding digit number_from
last-digit w d low fits =
    ap (λ b. number_from w (cond b (48 + d) (87 + d) ∷ [])) (lt-ltb d 10 low) ∙
    digit_fits ((48 + d) ∷ []) w 0 (48 + d) (omega arith) refl d (digit-value d low) fits

module _ (v : ℕ) (fits : v < 2 ^ 64) where
  pub decimal-some : 0 < length (decimal v)
  decimal-some = go (dec_lt v 10)
    where
      go : Dec (v < 10) → 0 < length (decimal v)
      go (yes low) = omega (arith, length-one v low)
      go (no high) = let more : 10 ≤ v = omega (arith, high) in omega (arith, length_more v more fits)

one-digit : (v : ℕ) → v < 10 → number_from 0 (decimal v) ≡ Some v
one-digit v low =
    let is : 10 * 0 + v % 10 ≡ v = omega arith in
    ap (number_from 0) (decimal-one v low) ∙ last-digit 0 (v % 10) (omega arith) (omega arith) ∙ ap Some is

more-digits : (v : ℕ) → 10 ≤ v → v < 2 ^ 64 → number_from 0 (decimal (v / 10)) ≡ Some (v / 10) → number_from 0 (decimal v) ≡ Some v
more-digits v high fits before =
    let is : 10 * (v / 10) + v % 10 ≡ v = omega arith in
    ap (number_from 0) (decimal-more v high fits) ∙ from_then 0 (v / 10) (decimal (v / 10)) (digit (v % 10) ∷ []) before ∙
    last-digit (v / 10) (v % 10) (omega arith) (omega arith) ∙ ap Some is

-- with at most n + 1 digits
decimal_back : (n v : ℕ) → v < 10 ^ suc n → v < 2 ^ 64 → number_from 0 (decimal v) ≡ Some v
decimal_back zero v few fits = one-digit v few
decimal_back (suc n) v few fits = go (dec_lt v 10) (decimal_back n (v / 10) (tenth_lt (suc n) v few))
  where
    go : Dec (v < 10) → (v / 10 < 2 ^ 64 → number_from 0 (decimal (v / 10)) ≡ Some (v / 10)) → number_from 0 (decimal v) ≡ Some v
    go (yes low) before = one-digit v low
    go (no high) before = more-digits v (omega (arith, high)) fits (before (omega arith))

pub number-written : (v : ℕ) → v < 2 ^ 64 → number_of (decimal v) ≡ Some v
number-written v fits = number_starts (decimal v) (decimal-some v fits) ∙ decimal_back 19 v (omega arith) fits
