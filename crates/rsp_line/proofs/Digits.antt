-- Hexadecimal digits one behind the other, and the bytes that they are. Assumes nothing.
use Prim.Native.Nat.{ℕ, zero, suc, ◌+◌, ◌*◌, ◌/◌, ◌%◌, ◌<◌, ◌≤◌}
use mathlib.Core.Path.{◌≡◌, refl, sym, ap, ap₂, ◌∙◌}
use mathlib.Core.Bool.{Bool, true, false, cond, ◌&&◌}
use mathlib.Core.List.{List, [], ◌∷◌, ◌++◌, append-nil}
use native.Mathlib.Decide.{dec_lt}
use native.Mathlib.Omega.{arith}
use borrow.Author.Tests.{ltb-true, eqb-true, lt-ltb, le-ltb, eq-eqb}
use lib.Dec.{eqb, ltb}
use lib.ListN.{length, take, drop, get_or, set, drop_of_length-le}
use lib.Seq.{append_snoc, take-suc-set}
use Rattle.std.specs.Prelude.{Option, Some, None, IfSome, unwrap_or, is_some}
use Rattle.std.proofs.lemmas.Bool.Decides.{nat_tests}
use Rattle.std.specs.List.{fold}
use Rattle.std.specs.Simd.{first_chunks}
use Rattle.standard.specs.Strings.{Bytes}
use Rattle.standard.proofs.Strings.{bytes-nil, bytes-cons, bytes_head, bytes_tail}
use Rattle.text.specs.Digits.{digit, hex}
use Rattle.text.specs.Writing.{Appends}
use Rattle.text.proofs.Digits.{length-hex}
use Rattle.rsp_line.specs.Hex.{digit_of, all_digits, is_hex, bytes_of}
use Rattle.std.proofs.lemmas.Bool.{and_parts}
use Rattle.rsp_line.proofs.Lists.{split}

-- a character is a digit where one is found
pub digit_found : (c : ℕ) (o : Option ℕ) → unwrap_or o 16 ≡ digit_of c → IfSome o (λ d. d < 16) → is_some o ≡ ltb (digit_of c) 16
digit_found c None is few = rw (← is) refl
digit_found c (Some d) is few = sym (lt-ltb (digit_of c) 16 (omega (arith, is, few)))

pub all_digits-fold : (b : Bool) (s : List ℕ) → fold (λ b c. b && ltb (digit_of c) 16) b s ≡ (b && all_digits s)
unfolding all_digits
all_digits-fold true [] = refl
all_digits-fold false [] = refl
all_digits-fold true (c ∷ s) = all_digits-fold (ltb (digit_of c) 16) s
all_digits-fold false (c ∷ s) = all_digits-fold false s

digit_at : (s : List ℕ) (i : ℕ) → i < length s → all_digits s ≡ true → digit_of (get_or s i 0) < 16
unfolding all_digits
digit_at [] i h all = absurd (omega arith)
digit_at (c ∷ s) zero h all = ltb-true _ _ ((and_parts (ltb (digit_of c) 16) (all_digits s) all).0)
digit_at (c ∷ s) (suc i) h all = digit_at s i (omega arith) ((and_parts (ltb (digit_of c) 16) (all_digits s) all).1)

-- the digits of whole bytes
module _ (s : List ℕ) (whole : is_hex s ≡ true) where
  digits_all : all_digits s ≡ true
  unfolding is_hex
  digits_all = (and_parts (eqb (length s % 2) 0) (all_digits s) whole).1

  pub even : length s % 2 ≡ 0
  unfolding is_hex
  even = eqb-true _ _ ((and_parts (eqb (length s % 2) 0) (all_digits s) whole).0)

  pub digit_lt : (i : ℕ) → i < length s → digit_of (get_or s i 0) < 16
  digit_lt i h = digit_at s i h digits_all

pub length-bytes : (s : List ℕ) → length (bytes_of s) ≡ length s / 2
unfolding bytes_of
length-bytes [] = refl
length-bytes (high ∷ []) = refl
length-bytes (high ∷ low ∷ s) = ap suc (length-bytes s) ∙ half (length s)
  where
    half : (n : ℕ) → suc (n / 2) ≡ suc (suc n) / 2
    half n = omega arith

pair : (s : List ℕ) (i : ℕ) → 2 * i + 1 < length s
    → bytes_of (drop (2 * i) s) ≡ (16 * digit_of (get_or s (2 * i) 0) + digit_of (get_or s (2 * i + 1) 0)) ∷ bytes_of (drop (2 * (i + 1)) s)
unfolding bytes_of
pair s i h =
    let next : 2 * i + 1 + 1 ≡ 2 * (i + 1) = omega arith in
    ap bytes_of
    (split s (2 * i) (omega arith) ∙
    ap (λ l. get_or s (2 * i) 0 ∷ l) (split s (2 * i + 1) h ∙ ap (λ k. get_or s (2 * i + 1) 0 ∷ drop k s) next))

-- the library's pairs
pub pair_at : (s : List ℕ) (k i : ℕ) → i < k → 2 * k ≤ length s
    → (get_or (get_or (first_chunks 2 k s) i []) 0 0 ≡ get_or s (2 * i) 0)
    × (get_or (get_or (first_chunks 2 k s) i []) 1 0 ≡ get_or s (2 * i + 1) 0)
pair_at s zero i h long = absurd (omega arith)
pair_at [] (suc k) i h long = absurd (omega arith)
pair_at (a ∷ []) (suc k) i h long = absurd (omega arith)
pair_at (a ∷ b ∷ s) (suc k) zero h long = (refl, refl)
pair_at (a ∷ b ∷ s) (suc k) (suc i) h long =
    let rest = pair_at s k i (omega arith) (omega arith) in
    let first : 2 * suc i ≡ suc (suc (2 * i)) = omega arith in
    let second : 2 * suc i + 1 ≡ suc (suc (2 * i + 1)) = omega arith in
    (rest.0 ∙ sym (ap (λ k. get_or (a ∷ b ∷ s) k 0) first), rest.1 ∙ sym (ap (λ k. get_or (a ∷ b ∷ s) k 0) second))

-- the bytes of the first i pairs of digits are written
pub record Decoded (s : List ℕ) (i : ℕ) (old : List ℕ) (at : ℕ) (mid : List ℕ) : Type 0 where
  pub is : take at old ++ bytes_of s ≡ take (at + i) mid ++ bytes_of (drop (2 * i) s)

module _ {s : List ℕ} {i : ℕ} {old mid : List ℕ} {at : ℕ} (so_far : Decoded s i old at mid) where
  pub decoded_more : (b : ℕ) → 2 * i + 1 < length s → at + i < length mid
      → b ≡ 16 * digit_of (get_or s (2 * i) 0) + digit_of (get_or s (2 * i + 1) 0) → Decoded s (i + 1) old at (set mid (at + i) b)
  decoded_more b h room is =
      let rest = bytes_of (drop (2 * (i + 1)) s) in
      let next : at + (i + 1) ≡ suc (at + i) = omega arith in
      let put : take (at + (i + 1)) (set mid (at + i) b) ≡ take (at + i) mid ++ (b ∷ []) =
      ap (λ k. take k (set mid (at + i) b)) next ∙ take-suc-set mid (at + i) b room
      in
      record {
        is = so_far.is ∙ ap (λ l. take (at + i) mid ++ l) (pair s i h ∙ ap (λ d. d ∷ rest) (sym is)) ∙
            sym (ap (λ l. l ++ rest) put ∙ append_snoc (take (at + i) mid) b rest);
      }

  pub decoded_all : is_hex s ≡ true → (n : ℕ) → n ≡ length s / 2 → n ≡ i → Appends old at (bytes_of s) (at + n) mid
  unfolding bytes_of
  decoded_all whole n half last =
      let past : length s ≤ 2 * i = omega (arith, even s whole) in
      record {
        ends = omega (arith, length-bytes s);
        is =
            rw last
            (sym (so_far.is ∙ ap (λ l. take (at + i) mid ++ bytes_of l) (drop_of_length-le s past) ∙ append-nil (take (at + i) mid)));
      }

-- the bytes are bytes
bytes_of_digits : (s : List ℕ) → all_digits s ≡ true → Bytes (bytes_of s)
unfolding bytes_of all_digits
bytes_of_digits [] all = bytes-nil
bytes_of_digits (high ∷ []) all = bytes-nil
bytes_of_digits (high ∷ low ∷ s) all =
    let rest = (and_parts (ltb (digit_of high) 16) (all_digits (low ∷ s)) all).1 in
    bytes-cons
    (pair_lt (ltb-true _ _ ((and_parts (ltb (digit_of high) 16) (all_digits (low ∷ s)) all).0))
    (ltb-true _ _ ((and_parts (ltb (digit_of low) 16) (all_digits s) rest).0)))
    (bytes_of_digits s ((and_parts (ltb (digit_of low) 16) (all_digits s) rest).1))
  where
    pair_lt : {a b : ℕ} → a < 16 → b < 16 → 16 * a + b < 256
    pair_lt h l = omega arith

pub bytes-are : (s : List ℕ) → is_hex s ≡ true → Bytes (bytes_of s)
bytes-are s whole = bytes_of_digits s (digits_all s whole)

-- a digit that is written is read back
decimal-digit : (d : ℕ) → d < 10 → digit_of (48 + d) ≡ d
unfolding digit_of
decimal-digit d h = grind (arith, nat_tests)

letter-digit : (d : ℕ) → 10 ≤ d → d < 16 → digit_of (87 + d) ≡ d
unfolding digit_of
letter-digit d high h = grind (arith, nat_tests)

digit_back : (d : ℕ) → d < 16 → digit_of (digit d) ≡ d
unfolding digit
digit_back d h = go (dec_lt d 10)
  where
    go : Dec (d < 10) → digit_of (cond (ltb d 10) (48 + d) (87 + d)) ≡ d
    go (yes low) = rw (lt-ltb d 10 low) (decimal-digit d low)
    go (no high) = rw (le-ltb d 10 (omega (arith, high))) (letter-digit d (omega (arith, high)) h)

hex-digits : (v : List ℕ) → Bytes v → all_digits (hex v) ≡ true
unfolding hex all_digits
hex-digits [] h = refl
hex-digits (b ∷ v) h =
    both (digit-lt-16 (b / 16) (high b (bytes_head h))) (both (digit-lt-16 (b % 16) (low b)) (hex-digits v (bytes_tail h)))
  where
    high : (b : ℕ) → b < 256 → b / 16 < 16
    high b h = omega arith

    low : (b : ℕ) → b % 16 < 16
    low b = omega arith

    digit-lt-16 : (d : ℕ) → d < 16 → ltb (digit_of (digit d)) 16 ≡ true
    digit-lt-16 d h = ap (λ x. ltb x 16) (digit_back d h) ∙ lt-ltb d 16 h

    both : {a b : Bool} → a ≡ true → b ≡ true → (a && b) ≡ true
    both p q = ap₂ ◌&&◌ p q

hex-whole : (v : List ℕ) → Bytes v → is_hex (hex v) ≡ true
unfolding is_hex
hex-whole v h = ap₂ ◌&&◌ (eq-eqb (length (hex v) % 2) 0 (omega (arith, length-hex v))) (hex-digits v h)

hex_back : (v : List ℕ) → Bytes v → bytes_of (hex v) ≡ v
unfolding hex bytes_of
hex_back [] h = refl
hex_back (b ∷ v) h = ap₂ (λ x y. x ∷ y) (byte b (bytes_head h)) (hex_back v (bytes_tail h))
  where
    byte : (b : ℕ) → b < 256 → 16 * digit_of (digit (b / 16)) + digit_of (digit (b % 16)) ≡ b
    byte b h =
        let high : b / 16 < 16 = omega arith in
        let low : b % 16 < 16 = omega arith in
        ap₂ (λ x y. 16 * x + y) (digit_back (b / 16) high) (digit_back (b % 16) low) ∙ omega arith

pub hex-written : (v : List ℕ) → Bytes v → (is_hex (hex v) ≡ true) × (bytes_of (hex v) ≡ v)
hex-written v bytes = (hex-whole v bytes, hex_back v bytes)
