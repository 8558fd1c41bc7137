-- The message schedule in sixteen places, as the circular queue of FIPS 180-4 §6.1.3: word t stands in place t % 16 until word t + 16 takes
-- it. This is how a compression may keep its words: contracts inside a compression cite it, no promise to a caller does.
use Rattle.std.specs.Prelude.{ℕ, ◌+◌, ◌%◌, ◌≤◌, ◌<◌, ◌≡◌, List, get_or}
use Rattle.standard.specs.Hash.{Hash, Eight, schedule, turns}

-- w has the latest sixteen of the first n words of a block's schedule
pub record Latest (H : Hash) (block : List ℕ) (n : ℕ) (w : List ℕ) : Type 0 where
  pub there : (t : ℕ) → t < n → n ≤ t + 16 → get_or w (t % 16) 0 ≡ get_or (schedule H block H.rounds) t 0

-- r is w with m words more, word n and those that follow it
pub record Extended (H : Hash) (m n : ℕ) (w r : List ℕ) : Type 0 where
  pub latest : (block : List ℕ) → Latest H block n w → Latest H block (n + m) r

-- s is what the first t turns over a block make of `from`
abbrev pub Reached : (H : Hash) (block : List ℕ) (from : Eight) (t : ℕ) (s : Eight) → Type 0
Reached H block from t s = s ≡ turns H (schedule H block H.rounds) t from

-- r is s after m turns more, turn t and those that follow it, where K has the constants and w, among others, the words of these turns
pub record Turned (H : Hash) (m t : ℕ) (K w : List ℕ) (s r : Eight) : Type 0 where
  pub after :
      (block : List ℕ) (from : Eight) (n : ℕ) → K ≡ H.K → Latest H block n w → t + m ≤ n → n ≤ t + 16
      → Reached H block from t s → Reached H block from (t + m) r
