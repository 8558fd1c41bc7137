-- A whole string copied into another, and two, one behind the other. Assumes nothing.
use mathlib.Core.Path.{◌≡◌, sym, ap, ap₂, ◌∙◌}
use mathlib.Core.List.{List, ◌++◌, append_assoc, append-nil}
use Prim.Native.Nat.{ℕ, ◌+◌, ◌≤◌}
use native.Mathlib.Nat.{le_of_eq, le_refl, add_assoc}
use native.Mathlib.Omega.{arith}
use lib.ListN.{length, take, drop, drop_of_length-le, length-append, length-drop}
use lib.Seq.{paste, take-paste, drop-paste, drop-drop, take_all, take-append-add, take_at, take-take, length-take-le}

pub pasted : (d s : List ℕ) (at n : ℕ) → length s ≡ n → paste d at s (length s) ≡ take at d ++ (s ++ drop (at + n) d)
pasted d s at n size =
    rw size (append_assoc (take at d) (take n s) (drop (at + n) d)) ∙
    ap (λ p. take at d ++ (p ++ drop (at + n) d)) (take_all n s (le_of_eq size))

-- the first bytes of two strings that end in the second
pub take_both : (a b : List ℕ) (n k : ℕ) → length a ≡ n → take (n + k) (a ++ b) ≡ a ++ take k b
take_both a b n k size = rw (← size) (take-append-add a b k)

-- the first n of w
pub pasted_part : (d w : List ℕ) (at n : ℕ) → n ≤ length w → paste d at (take n w) (length (take n w)) ≡ paste d at w n
pasted_part d w at n h = rw (length-take-le n w h, take-take n n w (le_refl n))

-- a, and as much of b as fills s
pub pasted_both : (z s r a b : List ℕ) → length z ≡ 55 → length a ≡ 32 → length b ≡ 32
    → s ≡ paste z 0 a (length a) → r ≡ paste s 32 (take 23 b) (length (take 23 b)) → r ≡ take 55 (a ++ b)
pasted_both z s r a b z-size a-size b-size s-is r-is =
    let part : length (take 23 b) ≡ 23 = length-take-le 23 b (omega arith) in
    let first : s ≡ a ++ drop 32 z = s-is ∙ pasted z a 0 32 a-size in
    let long : length s ≤ 55 = omega (arith, ap length first, length-append a (drop 32 z), length-drop 32 z) in
    r-is ∙
    pasted s (take 23 b) 32 23 part ∙
    ap₂ (λ p q. p ++ (take 23 b ++ q)) (ap (take 32) first ∙ take_at a (drop 32 z) 32 a-size) (drop_of_length-le s long) ∙
    ap (λ q. a ++ q) (append-nil (take 23 b)) ∙
    sym (take_both a b 32 23 a-size)

-- a string put in, and two, one behind the other
module _ (d a : List ℕ) (at m : ℕ) (sized : length a ≡ m) where
  pub paste-whole : paste d at a m ≡ take at d ++ a ++ drop (at + m) d
  paste-whole = ap (λ u. take at d ++ u ++ drop (at + m) d) (take_all m a (le_of_eq sized))

  pub take-paste-whole : at ≤ length d → take (at + m) (paste d at a m) ≡ take at d ++ a
  take-paste-whole room =
      take-paste d at a m room (le_of_eq (sym sized)) ∙ ap (λ u. take at d ++ u) (take_all m a (le_of_eq sized))

  pub paste_join : (b : List ℕ) (n : ℕ) → at + m + n ≤ length d → length b ≡ n
      → paste (paste d at a m) (at + m) b n ≡ paste d at (a ++ b) (m + n)
  paste_join b n room second =
      let behind : drop (at + m + n) (paste d at a m) ≡ drop (at + (m + n)) d =
      sym (drop-drop n (at + m) (paste d at a m)) ∙
      ap (drop n) (drop-paste d at a m (omega arith) (le_of_eq (sym sized))) ∙
      drop-drop n (at + m) d ∙
      ap (λ k. drop k d) (add_assoc at m n) in
      let both : take (m + n) (a ++ b) ≡ a ++ b =
      take_all (m + n) (a ++ b) (le_of_eq (length-append a b ∙ ap₂ ◌+◌ sized second)) in
      ap₂ (λ u v. u ++ take n b ++ v) (take-paste-whole (omega arith)) behind ∙
      ap (λ u. take at d ++ a ++ u ++ drop (at + (m + n)) d) (take_all n b (le_of_eq second)) ∙
      ap (λ u. u ++ drop (at + (m + n)) d) (append_assoc (take at d) a b ∙ ap (λ u. take at d ++ u) (sym both))
