-- Arrays filled from the front, and parts of a string. Assumes nothing.
use Rattle.std.proofs.Common.{◌≡◌, ℕ, zero, ◌+◌, ◌-◌, ◌*◌, ◌<◌, ◌≤◌, suc, List, [], ◌∷◌, ◌++◌, length, get_or, take, drop, set}
use Rattle.std.proofs.Common.{refl, ap, ap₂, sym, ◌∙◌}
use Rattle.std.proofs.Common.{add-one, arith, length-drop, length-take-le, take-suc, take-suc-set, take_all}
use Rattle.standard.specs.Hash.{word_at, schedule, block_at}
use Rattle.standard.specs.Sha256.{sha256}
use Rattle.standard.proofs.Hash.{schedule-own}

-- one more behind the first n
pub take_more_set : (l : List ℕ) (n v : ℕ) → n < length l → take (n + 1) (set l n v) ≡ take n l ++ (v ∷ [])
take_more_set l n v h = rw add-one (take-suc-set l n v h)

pub take_more : (l : List ℕ) (n : ℕ) → n < length l → take (n + 1) l ≡ take n l ++ (get_or l n 0 ∷ [])
take_more l n h = rw add-one (take-suc l n 0 h)

-- an array of sixteen, each the block's own word of its number
module _ (block w : List ℕ) (long : length w ≡ 16) (each : (t : ℕ) → t < 16 → get_or w t 0 ≡ word_at sha256 block t) where
  own_words : (t : ℕ) → t ≤ 16 → take t w ≡ schedule sha256 block t
  unfolding schedule
  own_words zero h = refl
  own_words (suc t) h =
      take-suc w t 0 (omega arith) ∙ ap₂ (λ r x. r ++ (x ∷ [])) (own_words t (omega arith)) (each t h) ∙
      sym (schedule-own sha256 block t h) ∙ rw add-one

  pub sixteen_words : w ≡ schedule sha256 block 16
  sixteen_words = sym (take_all 16 w (omega arith)) ∙ own_words 16 (omega arith)

pub length_part : (s : List ℕ) (at n : ℕ) → at + n ≤ length s → length (take n (drop at s)) ≡ n
length_part s at n h =
    let inside : n ≤ length (drop at s) = simp length-drop (omega arith) in
    length-take-le n (drop at s) inside

-- a whole block of a text, cut out from its first byte to its last
module _ (text : List ℕ) (i : ℕ) where
  cut : 64 * i + 64 - 64 * i ≡ 64
  cut = omega arith

  pub block_cut : take (64 * i + 64 - 64 * i) (drop (64 * i) text) ≡ block_at sha256 text i
  unfolding block_at
  block_cut = ap (λ n. take n (drop (64 * i) text)) cut

  pub length_cut : 64 * i + 64 ≤ length text → length (take (64 * i + 64 - 64 * i) (drop (64 * i) text)) ≡ 64
  length_cut room = rw cut (length_part text (64 * i) 64 room)
