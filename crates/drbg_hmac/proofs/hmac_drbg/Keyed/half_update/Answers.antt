-- The new Key is an HMAC of 32 bytes, so it is made ready at no cost, and V is an HMAC of four blocks. The strings are short, so the
-- count fits.
use Rattle.std.proofs.Common.{◌≡◌, ℕ, ◌+◌, ◌++◌, ◌∷◌, length, refl, sym, length-append, arith}
use Rattle.standard.specs.Hmac.{rekey}
use Rattle.sha256.specs.Seed.{material}
use Rattle.drbg_hmac.specs.Keys.{half}
use Rattle.drbg_hmac.proofs.Pads.{key-ready}
use Rattle.drbg_shared.proofs.Metered.{same_metered}
use Rattle.drbg_hmac.proofs.Updates.{hmac-count}
use Rattle.drbg_hmac.proofs.hmac_drbg.Keyed.half_update.Goals as goal

pub overflow_add-result : goal.overflow_add-result
overflow_add-result c =
    let a = c.args in
    let text = a.self.now.v ++ (a.separator ∷ material a.provided.now) in
    let count = hmac-count a.self.now.key a.self.now.v (omega arith) (omega arith) text c.hmac_of_all-mac.ensures in
    record { fits = omega (arith, simp length-append at count) }

counted : (n : ℕ) → n + 0 + (4 + 0) ≡ n + 4
counted n = omega arith

pub returns : goal.returns
unfolding half rekey
returns c =
    let mac = c.hmac_of_all-mac in
    let size : length mac.result.bytes ≡ 32 = omega arith in
    sym (rw (← mac.ensures, key-ready mac.result.bytes size, ← c.hmac_of-v.ensures) (same_metered refl (counted mac.result.blocks)))
