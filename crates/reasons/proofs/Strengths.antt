-- A rounded strength is one of four: what holds of 112, 128, 192 and 256 holds of it. Assumes nothing.
use mathlib.Core.Path.{◌≡◌, refl}
use mathlib.Core.Bool.{Bool, true, false, cond}
use Prim.Native.Nat.{ℕ, ◌*◌, ◌/◌, ◌≤◌}
use native.Mathlib.Omega.{arith}
use lib.Dec.{leb}
use Rattle.reasons.specs.Checks.{rounded}

pub of_four : (P : ℕ → Type 0) → P 112 → P 128 → P 192 → P 256 → (strength : ℕ) → P (rounded strength)
unfolding rounded
of_four P a b c d strength = go (leb strength 112) (leb strength 128) (leb strength 192)
  where
    go : (x y z : Bool) → P (cond x 112 (cond y 128 (cond z 192 256)))
    go true y z = a
    go false true z = b
    go false false true = c
    go false false false = d

-- 16 divides it, so that no bit is lost where it is counted in bytes, or half of it is
whole : (strength : ℕ) → rounded strength ≡ 16 * (rounded strength / 16)
whole = of_four (λ r. r ≡ 16 * (r / 16)) refl refl refl refl

-- SP 800-90A §8.6.3, §8.6.7: the least entropy has the strength in bits, and the least nonce half as many
pub entropy-bits : (strength entropy : ℕ) → rounded strength / 8 ≤ entropy → rounded strength ≤ 8 * entropy
entropy-bits strength entropy h = omega (arith, h, whole strength)

pub nonce-bits : (strength nonce : ℕ) → rounded strength / 16 ≤ nonce → rounded strength ≤ 2 * (8 * nonce)
nonce-bits strength nonce h = omega (arith, h, whole strength)
