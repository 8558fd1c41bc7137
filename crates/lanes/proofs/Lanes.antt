-- A lane read word by word; lanes hashed one after the other; lanes filled one after the other. Assumes nothing.
use mathlib.Core.Path.{◌≡◌, sym, ap, ap₂, ◌∙◌}
use mathlib.Core.List.{List, [], ◌∷◌, ◌++◌}
use Prim.Native.Nat.{ℕ, ◌+◌, ◌*◌, ◌≤◌, ◌<◌}
use native.Mathlib.Omega.{arith}
use borrow.Author.Count.{below_more}
use lib.ListN.{length, get_or, take, drop, set, length-drop, length-set}
use lib.Seq.{get_or-drop, get_or-set_same, get_or-set_other, take_at, drop_at, take-take, take-add, length-take-le}
use Rattle.standard.specs.Hash.{schedule, compressed}
use Rattle.standard.specs.Sha256.{sha256}
use Rattle.compression.proofs.Stores.{take_more, take_more_set}
use Rattle.compression.specs.Values.{eight_of}
use Rattle.compression.specs.declared.rounds.Eight as Words
use Rattle.lanes.specs.Lanes.{lane_of, no_eight, Hashed}

-- one word more of a lane that begins at base
word_more : (w words : List ℕ) (base t : ℕ) → t < length w → base + t < length words → take t w ≡ take t (drop base words)
    → take (t + 1) (set w t (get_or words (base + t) 0)) ≡ take (t + 1) (drop base words)
word_more w words base t room there so_far =
    let inside : t < length (drop base words) = simp length-drop (omega arith) in
    take_more_set w t (get_or words (base + t) 0) room ∙
    ap₂ (λ q v. q ++ (v ∷ [])) so_far (sym (get_or-drop base words t 0)) ∙
    sym (take_more (drop base words) t inside)

-- and two
pub two_more : (w words : List ℕ) (base t : ℕ) → t + 1 < length w → base + t + 1 < length words → take t w ≡ take t (drop base words)
    → take (t + 2) (set (set w t (get_or words (base + t) 0)) (t + 1) (get_or words (base + t + 1) 0)) ≡ take (t + 2) (drop base words)
two_more w words base t room there so_far =
    let first = set w t (get_or words (base + t) 0) in
    let place : base + t + 1 ≡ base + (t + 1) = omega arith in
    let two : t + 1 + 1 ≡ t + 2 = omega arith in
    let wide : t + 1 < length first = rw (length-set w t (get_or words (base + t) 0)) room in
    rw place
    (rw two at (word_more first words base (t + 1) wide (omega arith) (word_more w words base t (omega arith) (omega arith) so_far)))

-- one lane more
pub lane_more : (words : List ℕ) (r : List Words.Eight) (s : Words.Eight) (i : ℕ) → i < length r
    → ((block : List ℕ) → lane_of words i ≡ schedule sha256 block 16 → eight_of s ≡ compressed sha256 sha256.initial block)
    → ((l : ℕ) → l < i → Hashed words r l) → (l : ℕ) → l < i + 1 → Hashed words (set r i s) l
lane_more words r s i room here before =
    below_more (Hashed words (set r i s)) i
    (λ l low block is. ap eight_of (get_or-set_other r i l s no_eight (apart l low)) ∙ before l low block is)
    (λ block is. ap eight_of (get_or-set_same r i s no_eight room) ∙ here block is)
  where
    apart : (l : ℕ) → l < i → l ≡ i → ⊥
    apart l low same = omega arith

-- n words behind the first
part : (w : List ℕ) (at n : ℕ) → at ≤ length w → take n (drop at w) ≡ drop at (take (at + n) w)
part w at n h = sym (ap (drop at) (take-add at n w) ∙ drop_at (take at w) (take n (drop at w)) at (length-take-le at w h))

-- a lane does not see what stands behind it
lane_kept : (a b : List ℕ) (j l : ℕ) → j < l → 16 * l ≤ length a → 16 * l ≤ length b → take (16 * l) a ≡ take (16 * l) b
    → lane_of a j ≡ lane_of b j
lane_kept a b j l low a-long b-long same =
    let here : 16 * j + 16 ≤ 16 * l = omega arith in
    part a (16 * j) 16 (omega arith) ∙
    ap (drop (16 * j))
    (sym (take-take (16 * j + 16) (16 * l) a here) ∙ ap (take (16 * j + 16)) same ∙ take-take (16 * j + 16) (16 * l) b here) ∙
    sym (part b (16 * j) 16 (omega arith))

-- one lane more is filled
pub lane_filled : (words new : List ℕ) (f : ℕ → List ℕ) (l : ℕ) → 16 * l + 16 ≤ length words → length new ≡ length words
    → take (16 * l + 16) new ≡ take (16 * l) words ++ f l → ((j : ℕ) → j < l → lane_of words j ≡ f j)
    → (j : ℕ) → j < l + 1 → lane_of new j ≡ f j
lane_filled words new f l room size is before =
    let p = take (16 * l) words in
    let p-size : length p ≡ 16 * l = length-take-le (16 * l) words (omega arith) in
    let short : 16 * l ≤ 16 * l + 16 = omega arith in
    let same : take (16 * l) new ≡ p =
    sym (take-take (16 * l) (16 * l + 16) new short) ∙ ap (take (16 * l)) is ∙ take_at p (f l) (16 * l) p-size in
    below_more (λ j. lane_of new j ≡ f j) l (λ j low. lane_kept new words j l low (omega arith) (omega arith) same ∙ before j low)
    (part new (16 * l) 16 (omega arith) ∙ ap (drop (16 * l)) is ∙ drop_at p (f l) (16 * l) p-size)
