-- A counter that is read before 1 is added to it. Assumes nothing.
use Rattle.std.proofs.Common.{◌≡◌, ℕ, ◌+◌, ◌<◌, ◌≤◌, ◌&&◌, leb, sym, ap, ◌∙◌, add-one, arith}
use native.Mathlib.Decide.{dec_lt}
use borrow.Author.Tests.{lt-leb}
use lib.Dec.{leb-suc-suc}
use Rattle.slots.specs.Sound.{between}

-- a counter against interval + 1, by its predecessor against the interval: for code where interval + 1 may not fit
pub counter_below : (before counter interval : ℕ) → (1 ≤ counter → before + 1 ≡ counter)
    → (leb 1 counter && leb before interval) ≡ between 1 counter (interval + 1)
counter_below before counter interval steps = go (dec_lt 0 counter)
  where
    go : Dec (0 < counter) → (leb 1 counter && leb before interval) ≡ between 1 counter (interval + 1)
    go (yes some) =
        let same : counter ≡ before + 1 = sym (steps some) in
        ap (λ b. leb 1 counter && b) (sym (leb-suc-suc before interval) ∙ rw (same, add-one, add-one))
    go (no none) =
        let zero : counter < 1 = omega (arith, none) in
        rw (lt-leb 1 counter zero)
