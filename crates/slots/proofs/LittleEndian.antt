-- Numbers and their bytes, and strings put into others. Assumes nothing.
use Rattle.std.proofs.Common.{◌≡◌, ℕ, zero, suc, ◌+◌, ◌-◌, ◌*◌, ◌/◌, ◌%◌, ◌^◌, ◌<◌, ◌≤◌, [], ◌∷◌, ◌++◌, ◌∙◌, drop-drop, take-add, refl}
use Rattle.std.proofs.Common.{pow-suc, take-suc, List, reverse, length, get_or, take, drop, set, sym, ap, subst, ap₂, append-nil, le_of_eq}
use Rattle.std.proofs.Common.{mod-eq_of_lt, mul_comm, add_comm, zero-add, arith, length-drop, drop_of_length-le, length-take-le, take_all}
use Rattle.std.proofs.Math.Nat.{pow-zero, div-one, div-div-eq-div-mul}
use mathlib.Core.List.{reverse-cons, reverse-append, reverse-reverse}
use lib.ListN.{length-reverse}
use lib.Seq.{sets-eq, paste, length-paste}
use Rattle.std.specs.Int.{Width, w8, w16, w32, w64, w128, byte_len, byte_at, byte_worth, bytes_low_first, sum_through, to_le_bytes}
use Rattle.std.specs.Int.{from_le_bytes}
use Rattle.standard.specs.Strings.{number_of, bytes_of, Bytes}
use Rattle.standard.proofs.Strings.{bytes-nil, bytes-append, bytes-cons, bytes_head, bytes_tail, length-bytes_of}
use Rattle.standard.proofs.Strings.{number_of-append, number_of-lt, number_of-bytes_of, bytes_of-number_of}
use Rattle.copies.proofs.Pasted.{take-paste-whole}
use Rattle.slots.specs.Numbers.{part, from_little_endian, little_endian}

pub length-little_endian : (n x : ℕ) → length (little_endian n x) ≡ n
unfolding little_endian
length-little_endian n x = length-reverse (bytes_of n x) ∙ length-bytes_of n x

-- there and back
pub from-little_endian : (n x : ℕ) → x < 256 ^ n → from_little_endian (little_endian n x) ≡ x
unfolding from_little_endian little_endian
from-little_endian n x fits = ap number_of (reverse-reverse (bytes_of n x)) ∙ number_of-bytes_of n x ∙ mod-eq_of_lt fits

bytes-reverse : {s : List ℕ} → Bytes s → Bytes (reverse s)
bytes-reverse {s = []} h = h
bytes-reverse {s = b ∷ s} h =
    subst Bytes (sym (reverse-cons b s)) (bytes-append (bytes-reverse (bytes_tail h)) (bytes-cons (bytes_head h) bytes-nil))

pub little_endian_from : {s : List ℕ} (n : ℕ) → Bytes s → length s ≡ n → little_endian n (from_little_endian s) ≡ s
unfolding from_little_endian little_endian
little_endian_from {s} n h sized =
    ap (λ k. reverse (bytes_of k (number_of (reverse s)))) (sym sized ∙ sym (length-reverse s)) ∙
    ap reverse (bytes_of-number_of (bytes-reverse h)) ∙
    reverse-reverse s

pub from_below : {s : List ℕ} → Bytes s → from_little_endian s < 256 ^ length s
unfolding from_little_endian
from_below {s} h = subst (λ k. number_of (reverse s) < 256 ^ k) (length-reverse s) (number_of-lt (bytes-reverse h))

-- low bytes and high ones
number_append : (s t : List ℕ) → from_little_endian (s ++ t) ≡ from_little_endian s + 256 ^ length s * from_little_endian t
unfolding from_little_endian
number_append s t =
    ap number_of (reverse-append s t) ∙
    number_of-append (reverse t) (reverse s) ∙
    add_comm _ (number_of (reverse s)) ∙
    ap (λ p. number_of (reverse s) + p) (mul_comm (number_of (reverse t)) _) ∙
    ap (λ k. number_of (reverse s) + 256 ^ k * number_of (reverse t)) (length-reverse s)

-- std's words for what stands in bytes
byte_is : (i n : ℕ) → byte_at i n ≡ n / 256 ^ i % 256
byte_is zero n = sym (rw (pow-zero, div-one))
byte_is (suc i) n = refl

div-pow-last : (i n : ℕ) → n / 256 ^ suc i ≡ n / 256 ^ i / 256
div-pow-last i n = ap (λ k. n / k) (pow-suc 256 i) ∙ sym (div-div-eq-div-mul n (256 ^ i) 256)

low_first : (i k n : ℕ) → bytes_low_first i k n ≡ little_endian k (n / 256 ^ i)
unfolding little_endian bytes_of
low_first i zero n = refl
low_first i (suc k) n =
    ap₂ ◌∷◌ (byte_is i n) (low_first (suc i) k n ∙ ap (little_endian k) (div-pow-last i n)) ∙
    sym (reverse-append (bytes_of k (n / 256 ^ i / 256)) (n / 256 ^ i % 256 ∷ []))

pub to_bytes : (w : Width) (n : ℕ) → to_le_bytes w n ≡ little_endian (byte_len w) n
to_bytes w n = low_first 0 (byte_len w) n ∙ rw (pow-zero, div-one)

worth : (k : ℕ) (s : List ℕ) → k < length s → sum_through (λ i. byte_worth i (get_or s i 0)) k ≡ from_little_endian (take (suc k) s)
unfolding from_little_endian number_of
worth zero s room = sym (ap from_little_endian (take-suc s 0 0 room) ∙ omega arith)
worth (suc k) s room =
    grind (arith, worth k s, take-suc s (suc k) 0 room, number_append (take (suc k) s) (get_or s (suc k) 0 ∷ []), length-take-le (suc k) s)

whole : (k : ℕ) (s : List ℕ) → length s ≡ suc k → sum_through (λ i. byte_worth i (get_or s i 0)) k ≡ from_little_endian s
whole k s sized = worth k s (omega arith) ∙ ap from_little_endian (take_all (suc k) s (le_of_eq sized))

pub from_bytes : (w : Width) (s : List ℕ) → length s ≡ byte_len w → from_le_bytes w s ≡ from_little_endian s
from_bytes w8 s sized = whole 0 s sized
from_bytes w16 s sized = whole 1 s sized
from_bytes w32 s sized = whole 3 s sized
from_bytes w64 s sized = whole 7 s sized
from_bytes w128 s sized = whole 15 s sized

-- two parts, one behind the other
pub part_join : (at m n : ℕ) (s : List ℕ) → part at (m + n) s ≡ part at m s ++ part (at + m) n s
part_join at m n s = take-add m n (drop at s) ∙ ap (λ u. part at m s ++ take n u) (drop-drop m at s)

pub length_part : (at n : ℕ) (s : List ℕ) → at + n ≤ length s → length (part at n s) ≡ n
length_part at n s room = length-take-le n (drop at s) (rw length-drop (omega arith))

-- a number read where it stands
pub number_read : (w : Width) (at : ℕ) (s : List ℕ) {n : ℕ} {p : List ℕ} → n ≡ from_le_bytes w p → p ≡ part at (byte_len w) s
    → at + byte_len w ≤ length s → n ≡ from_little_endian (part at (byte_len w) s)
number_read w at s {n} {p} is here room =
    is ∙ from_bytes w p (ap length here ∙ length_part at (byte_len w) s room) ∙ ap from_little_endian here

-- what a run of strings put in, one behind the other, has made of the bytes so far
pub record Front (sized : ℕ) (at : ℕ) (a d : List ℕ) : Type 0 where
  pub is : take at d ≡ a
  pub whole : length d ≡ sized

pub front_more : {size at : ℕ} {a d e : List ℕ} (n : ℕ) (b : List ℕ) → Front size at a d → at + n ≤ size → length b ≡ n
    → e ≡ paste d at b (length b) → Front size (at + n) (a ++ b) e
front_more {size} {at} {a} {d} {e} n b f room sized put =
    let is : e ≡ paste d at b n = put ∙ ap (paste d at b) sized in
    record {
      is = ap (take (at + n)) is ∙ take-paste-whole d b at n sized (omega (arith, f.whole)) ∙ ap (λ u. u ++ b) f.is;
      whole = ap length is ∙ length-paste d at b n (omega (arith, f.whole)) (le_of_eq (sym sized)) ∙ f.whole;
    }

pub front_number : {size at : ℕ} {a d e : List ℕ} (w : Width) (n : ℕ) {b : List ℕ} → Front size at a d → at + byte_len w ≤ size
    → b ≡ to_le_bytes w n → e ≡ paste d at b (length b) → Front size (at + byte_len w) (a ++ little_endian (byte_len w) n) e
front_number {at = at} {d = d} w n f room is put =
    let whole = is ∙ to_bytes w n in
    front_more (byte_len w) (little_endian (byte_len w) n) f room (length-little_endian (byte_len w) n)
    (put ∙ ap (λ u. paste d at u (length u)) whole)

pub front_byte : {size at : ℕ} {a d : List ℕ} (b : ℕ) → Front size at a d → at + 1 ≤ size → Front size (at + 1) (a ++ b ∷ []) (set d at b)
front_byte {at = at} {d = d} b f room = front_more 1 (b ∷ []) f room refl (sets-eq (b ∷ []) d at (omega (arith, f.whole)))

pub front_all : {size : ℕ} {a d : List ℕ} → Front size size a d → d ≡ a
front_all {size} {a} {d} f = sym (take_all size d (le_of_eq f.whole)) ∙ f.is

-- a part copied over all of another string
paste_over : (d b : List ℕ) (n : ℕ) → length d ≡ n → length b ≡ n → paste d 0 b n ≡ b
paste_over d b n first second =
    let behind : drop (0 + n) d ≡ [] = drop_of_length-le d (le_of_eq (first ∙ sym (zero-add n))) in
    ap₂ ◌++◌ (take_all n b (le_of_eq second)) behind ∙ append-nil b

-- so a part that is copied into an array of its length is what the array holds
pub part_copied : (d s : List ℕ) (at n : ℕ) → length d ≡ n → at + n ≤ length s →
    let p = take (at + n - at) (drop at s) in
    paste d 0 p (length p) ≡ part at n s
part_copied d s at n sized room =
    let whole : at + n - at ≡ n = omega arith in
    ap (λ k. paste d 0 (take k (drop at s)) (length (take k (drop at s)))) whole ∙
    ap (paste d 0 (part at n s)) (length_part at n s room) ∙
    paste_over d (part at n s) n sized (length_part at n s room)
