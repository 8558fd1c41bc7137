-- One turn more of HMAC_DRBG's output. Assumes nothing.
use mathlib.Core.Path.{◌≡◌}
use mathlib.Core.List.{List, ◌++◌}
use Prim.Native.Nat.{ℕ, ◌+◌}
use native.Mathlib.Numerals.{add-one}
use Rattle.standard.specs.Hmac.{Key, hmac}
use Rattle.standard.specs.HmacDrbg.{output_turns}
use Rattle.standard.specs.Sha256.{sha256}
use Rattle.drbg_shared.specs.Costs.{costing}

pub output-more : (K : Key) (v : List ℕ) (i : ℕ) (w next : List ℕ) (n : ℕ) → w ≡ (output_turns sha256 K v i).value.1
    → costing n next ≡ hmac sha256 K w
    → (output_turns sha256 K v (i + 1)).value ≡ ((output_turns sha256 K v i).value.0 ++ next, next)
unfolding output_turns
output-more K v i w next n w-is e = rw (add-one, ← w-is, ← e)
