-- The hash, one step at a time: one more turn, one more word of the schedule, one more block. Assumes nothing.
use mathlib.Core.Path.{◌≡◌, refl, sym, ap, ap₂, ◌∙◌}
use mathlib.Core.List.{List, [], ◌∷◌, ◌++◌}
use Prim.Native.Nat.{ℕ, zero, suc, ◌+◌, ◌*◌, ◌≤◌, ◌<◌}
use native.Mathlib.Numerals.{add-one}
use native.Mathlib.Omega.{arith}
use native.Mathlib.Nat.{mul-suc, mul-le-mul_left, le_trans}
use borrow.Author.Tests.{lt-ltb}
use lib.ListN.{length, get_or, take, drop, set, length-drop}
use lib.Seq.{take-suc-set, drop-append-le, take-append-le}
use Rattle.standard.specs.Hash.{Hash, Eight, block_bytes, word_at, block_at, schedule, schedule_word, turn, turns}
use Rattle.standard.specs.Hash.{compressed, absorbed}

module _ (H : Hash) where
  pub turns_more : (W : List ℕ) (t : ℕ) (s : Eight) → turns H W (t + 1) s ≡ turn H (turns H W t s) (get_or H.K t 0) (get_or W t 0)
  unfolding turns
  turns_more W t s = rw add-one

  pub schedule-more : (block : List ℕ) (t : ℕ)
      → schedule H block (t + 1) ≡ schedule H block t ++ (schedule_word H block (schedule H block t) t ∷ [])
  unfolding schedule
  schedule-more block t = rw add-one

  pub absorbed-more : (m : List ℕ) (i : ℕ) (s : Eight)
      → (absorbed H m (i + 1) s).value ≡ compressed H (absorbed H m i s).value (block_at H m i)
  unfolding absorbed
  absorbed-more m i s = rw add-one

  -- one more of the block's own words
  pub schedule-own : (block : List ℕ) (t : ℕ) → t < 16 → schedule H block (t + 1) ≡ schedule H block t ++ (word_at H block t ∷ [])
  unfolding schedule_word
  schedule-own block t few =
      let own : schedule_word H block (schedule H block t) t ≡ word_at H block t = rw (lt-ltb t 16 few) in
      schedule-more block t ∙ ap (λ x. schedule H block t ++ (x ∷ [])) own

  -- an array whose first t words are the schedule's, and the next one of the block's own words stored
  pub block_word_stored :
      (block w : List ℕ) (t v : ℕ) → t < length w → take t w ≡ schedule H block t → t < 16 → v ≡ word_at H block t
      → take (t + 1) (set w t v) ≡ schedule H block (t + 1)
  block_word_stored block w t v room so_far few e =
      rw (add-one) (take-suc-set w t v room) ∙ ap₂ (λ x y. x ++ (y ∷ [])) so_far e ∙ sym (schedule-own block t few)

  -- the first blocks of a string do not see what follows it
  pub block_at-append : (m x : List ℕ) (i : ℕ) → block_bytes H * (i + 1) ≤ length m → block_at H (m ++ x) i ≡ block_at H m i
  unfolding block_at
  block_at-append m x i h =
      let parts : block_bytes H * (i + 1) ≡ block_bytes H * i + block_bytes H = rw (add-one, mul-suc) in
      let start : block_bytes H * i ≤ length m = omega arith in
      let rest : block_bytes H ≤ length (drop (block_bytes H * i) m) = simp length-drop (omega arith) in
      rw (drop-append-le _ m x start, take-append-le _ (drop (block_bytes H * i) m) x rest)

  pub absorbed-append : (m x : List ℕ) (n : ℕ) (s : Eight) → block_bytes H * n ≤ length m → absorbed H (m ++ x) n s ≡ absorbed H m n s
  unfolding absorbed
  absorbed-append m x zero s h = refl
  absorbed-append m x (suc i) s h =
      ap₂ (λ t b. record { value = compressed H t.value b; blocks = t.blocks + 1 }) (absorbed-append m x i s (before i h))
      (block_at-append m x i (one_more i h))
    where
      before : (i : ℕ) → block_bytes H * suc i ≤ length m → block_bytes H * i ≤ length m
      before i h =
          let up : i ≤ suc i = omega arith in
          le_trans (mul-le-mul_left (block_bytes H) up) h

      one_more : (i : ℕ) → block_bytes H * suc i ≤ length m → block_bytes H * (i + 1) ≤ length m
      one_more i h = rw add-one h
