-- No function of either mechanism over SHA-256 consumes more than 8,288 blocks, within the limits of document 01.
-- Assumes those limits, and the lengths of a state's fields.
use mathlib.Core.Path.{◌≡◌, ap, ◌∙◌}
use mathlib.Core.List.{List, ◌++◌}
use Prim.Native.Nat.{ℕ, zero, suc, ◌≤◌}
use native.Mathlib.Omega.{arith}
use lib.Dec.{lit<}
use lib.ListN.{length, length-append}
use Rattle.standard.specs.Strings.{ceiling}
use Rattle.standard.specs.State.{State}
use Rattle.standard.specs.Sha256.{sha256}
use Rattle.standard.specs.Functions.{Mechanism, HMAC_DRBG, Hash_DRBG, draw}
use Rattle.standard.specs.Lengths.{Sized}
use Rattle.standard.specs.Blocks.{update_count, open_count, reseed_count, draw_count, Bounded}
use Rattle.standard.proofs.Counts.{opening-blocks, reseeding-blocks, draw-blocks, fresh_draw-blocks}

update_bound : (d : ℕ) → d ≤ 2048 → update_count sha256 d ≤ 80
update_bound zero h = omega arith
update_bound (suc d) h = omega arith

open_bound : (mechanism : Mechanism) (d : ℕ) → d ≤ 2048 → open_count sha256 mechanism d ≤ 80
open_bound HMAC_DRBG d h = update_bound d h
open_bound Hash_DRBG d h = omega arith

reseed_bound : (mechanism : Mechanism) (d : ℕ) → d ≤ 2048 → reseed_count sha256 mechanism d ≤ 80
reseed_bound HMAC_DRBG d h = update_bound d h
reseed_bound Hash_DRBG d h = omega arith

plain_bound : (mechanism : Mechanism) (b : ℕ) → b ≤ 65536 → draw_count sha256 mechanism b 0 ≤ 8200
unfolding ceiling
plain_bound HMAC_DRBG b h = omega arith
plain_bound Hash_DRBG b h = omega arith

draw_bound : (mechanism : Mechanism) (b a : ℕ) → b ≤ 65536 → a ≤ 1024 → draw_count sha256 mechanism b a ≤ 8288
unfolding ceiling
draw_bound HMAC_DRBG b zero h l = omega arith
draw_bound HMAC_DRBG b (suc a) h l = omega arith
draw_bound Hash_DRBG b zero h l = omega arith
draw_bound Hash_DRBG b (suc a) h l = omega arith

pub bounded : (mechanism : Mechanism) → Bounded mechanism
bounded mechanism =
    record {
      opening = λ entropy nonce personalization e n p.
          let d : length (entropy ++ (nonce ++ personalization)) ≤ 2048 = simp length-append (omega arith) in
          rw (opening-blocks sha256 (lit< tt) mechanism entropy nonce personalization) (omega (arith, open_bound mechanism _ d));
      reseeding = λ s entropy additional h e a.
          let d : length (entropy ++ additional) ≤ 2048 = simp length-append (omega arith) in
          rw (reseeding-blocks sha256 (lit< tt) mechanism s entropy additional h) (omega (arith, reseed_bound mechanism _ d));
      draw = λ s n additional h b a.
          rw (draw-blocks sha256 (lit< tt) mechanism s n additional h) (draw_bound mechanism n (length additional) b a);
      fresh_draw = λ s n entropy additional h b e a.
          let d : length (entropy ++ additional) ≤ 2048 = simp length-append (omega arith) in
          rw (fresh_draw-blocks sha256 (lit< tt) mechanism s n entropy additional h)
          (omega (arith, reseed_bound mechanism _ d, plain_bound mechanism n b));
    }

-- and a draw reaches it
pub bound_reached : (s : State) (additional : List ℕ) → Sized 32 s → length additional ≡ 1024
    → (draw sha256 HMAC_DRBG s 65536 additional).blocks ≡ 8288
unfolding ceiling
bound_reached s additional h l = draw-blocks sha256 (lit< tt) HMAC_DRBG s 65536 additional h ∙ ap (draw_count sha256 HMAC_DRBG 65536) l
