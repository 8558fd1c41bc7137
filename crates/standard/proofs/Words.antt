-- The operations on words of w bits give words of w bits: numbers below 2^w. Of an argument that only selects bits nothing is assumed,
-- and nothing of the amounts of rotation; a word of a block assumes that the block is of bytes.
use mathlib.Core.List.{List}
use Prim.Native.Nat.{ℕ, ◌+◌, ◌-◌, ◌*◌, ◌^◌, ◌≤◌, ◌<◌}
use native.Mathlib.Nat.{lt_of_le_of_lt, lt_of_lt_of_le, mod-lt, min-le_left, pow-le-pow_right}
use lib.Bits.{bit_and, bit_xor, and_le_r, or_lt, xor_lt}
use lib.Dec.{lit<, ltb}
use lib.ListN.{length, take, drop, length-take}
use lib.Pow.{pow_pos, shr_le, ones_sub-lt}
use Rattle.standard.specs.Words.{Amounts, SHR, ROTR, complement, Ch, Maj, Σ, σ}
use Rattle.standard.specs.Hash.{Hash, word_bits, plus, word_at, schedule_word}
use Rattle.standard.specs.Strings.{Bytes}
use Rattle.standard.proofs.Strings.{bytes_take, bytes_drop, number_of-lt, pow-256, cond_both}

and_lt : (w x y : ℕ) → y < 2 ^ w → bit_and x y < 2 ^ w
and_lt w x y h = lt_of_le_of_lt (and_le_r x y) h

xors_lt : (w x y z : ℕ) → x < 2 ^ w → y < 2 ^ w → z < 2 ^ w → bit_xor (bit_xor x y) z < 2 ^ w
xors_lt w x y z hx hy hz = xor_lt w (bit_xor x y) z (xor_lt w x y hx hy) hz

pub SHR-lt : (w n x : ℕ) → x < 2 ^ w → SHR n x < 2 ^ w
SHR-lt w n x h = lt_of_le_of_lt (shr_le x n) h

pub ROTR-lt : (w n x : ℕ) → x < 2 ^ w → ROTR w n x < 2 ^ w
ROTR-lt w n x h = or_lt w (SHR n x) _ (SHR-lt w n x h) (mod-lt (x * 2 ^ (w - n)) (pow_pos w))

pub complement-lt : (w x : ℕ) → complement w x < 2 ^ w
complement-lt w x = ones_sub-lt w x

pub Ch-lt : (w x y z : ℕ) → y < 2 ^ w → z < 2 ^ w → Ch w x y z < 2 ^ w
Ch-lt w x y z hy hz = xor_lt w _ _ (and_lt w x y hy) (and_lt w (complement w x) z hz)

pub Maj-lt : (w x y z : ℕ) → y < 2 ^ w → z < 2 ^ w → Maj x y z < 2 ^ w
Maj-lt w x y z hy hz = xors_lt w _ _ _ (and_lt w x y hy) (and_lt w x z hz) (and_lt w y z hz)

pub Σ-lt : (w : ℕ) (n : Amounts) (x : ℕ) → x < 2 ^ w → Σ w n x < 2 ^ w
Σ-lt w n x h = xors_lt w _ _ _ (ROTR-lt w n.first x h) (ROTR-lt w n.second x h) (ROTR-lt w n.third x h)

pub σ-lt : (w : ℕ) (n : Amounts) (x : ℕ) → x < 2 ^ w → σ w n x < 2 ^ w
σ-lt w n x h = xors_lt w _ _ _ (ROTR-lt w n.first x h) (ROTR-lt w n.second x h) (SHR-lt w n.third x h)

module _ (H : Hash) where
  pub plus-lt : (x y : ℕ) → plus H x y < 2 ^ word_bits H
  plus-lt x y = mod-lt (x + y) (pow_pos (word_bits H))

  pub word_at-lt : (block : List ℕ) (t : ℕ) → Bytes block → word_at H block t < 2 ^ word_bits H
  unfolding word_at
  word_at-lt block t h =
      let word : List ℕ = take H.word_bytes (drop (H.word_bytes * t) block) in
      let short : length word ≤ H.word_bytes = rw length-take (min-le_left _ _) in
      let bytes : Bytes word = bytes_take H.word_bytes (bytes_drop (H.word_bytes * t) h) in
      rw (← pow-256) (lt_of_lt_of_le (number_of-lt bytes) (pow-le-pow_right (lit< tt) short))

  pub schedule_word-lt : (block words : List ℕ) (t : ℕ) → Bytes block → schedule_word H block words t < 2 ^ word_bits H
  unfolding schedule_word
  schedule_word-lt block words t h = cond_both (λ x. x < 2 ^ word_bits H) (ltb t 16) (λ e. word_at-lt block t h) (plus-lt _ _)
