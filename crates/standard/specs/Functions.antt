-- SP 800-90A §9.1 to 9.3: what an opening, a reseed, a draw and a fresh draw do to a generator, for both mechanisms.
-- Differs from the document: the checks of each function and the entropy itself come from the caller.
use Rattle.std.specs.Prelude.{ℕ, List, []}
use Rattle.standard.specs.Metered.{Metered, ◌>>=◌}
use Rattle.standard.specs.Hash.{Hash}
use Rattle.standard.specs.State.{State, Drawn}
use Rattle.standard.specs.HashDrbg as HashDrbg
use Rattle.standard.specs.HmacDrbg as HmacDrbg

pub data Mechanism : Type 0 where
  HMAC_DRBG Hash_DRBG : Mechanism

module _ (H : Hash) where
  -- 9.1, step 9
  abbrev pub opening : Mechanism → (entropy nonce personalization : List ℕ) → Metered State
  opening HMAC_DRBG = HmacDrbg.instantiate H
  opening Hash_DRBG = HashDrbg.instantiate H

  -- 9.2, step 6
  abbrev pub reseeding : Mechanism → State → (entropy additional : List ℕ) → Metered State
  reseeding HMAC_DRBG = HmacDrbg.reseed H
  reseeding Hash_DRBG = HashDrbg.reseed H

  -- 9.3.1, step 8
  abbrev pub draw : Mechanism → State → (n : ℕ) (additional : List ℕ) → Metered Drawn
  draw HMAC_DRBG = HmacDrbg.generate H
  draw Hash_DRBG = HashDrbg.generate H

  -- 9.3.1, steps 7 and 8, with prediction resistance: a reseed with the entropy and the additional input (7.1), which is then
  -- Null (7.4), and a draw
  unfoldable pub fresh_draw : Mechanism → State → (n : ℕ) (entropy additional : List ℕ) → Metered Drawn
  fresh_draw mechanism s n entropy additional = do
    s ← reseeding mechanism s entropy additional
    draw mechanism s n []
