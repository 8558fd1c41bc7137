-- After each turn the output holds what fits of the hashes so far, and V is the last of them.
use Rattle.std.proofs.Common.{ℕ, ◌≡◌, ◌+◌, ◌-◌, ◌/◌, ◌%◌, ◌<◌, List, length, take}
use Rattle.standard.specs.HmacDrbg.{output_turns}
use Rattle.standard.specs.Sha256.{sha256}
use Rattle.drbg_hmac.specs.declared.hmac_drbg.Keyed.{Keyed}
use Rattle.drbg_hmac.specs.Keys.{ready}
use Rattle.drbg_hmac.proofs.hmac_drbg.Keyed.output.Given as goal

-- temp and V after the turns that reached `at`
abbrev pub made : (u : Keyed) (at : ℕ) → List ℕ × List ℕ
made u at = (output_turns sha256 (ready u.key) u.v (at / 32)).value

abbrev pub invariant-loop-at : goal.invariant-loop-at
invariant-loop-at l =
    (l.at % 32 ≡ 0) × (l.at < length l.initial.out + 32) × (length l.out ≡ length l.initial.out) ×
    (take l.at l.out ≡ take (length l.initial.out) (made l.initial.self l.at).0) × (l.self.v ≡ (made l.initial.self l.at).1) ×
    (l.self.key ≡ l.initial.self.key)

abbrev pub decreases-loop-at : goal.decreases-loop-at
decreases-loop-at l = length l.initial.out + 32 - l.at
