-- A turn more is one HMAC of V more, and as much of it as there is room for.
use Rattle.std.proofs.Common.{◌≡◌, ◌+◌, ◌/◌, ◌++◌, length, refl, sym, ap, ap₂, ◌∙◌, take_all, lit<, arith}
use lib.Seq.{take-nil}
use Rattle.standard.specs.HmacDrbg.{output_turns}
use Rattle.standard.specs.Sha256.{sha256}
use Rattle.standard.proofs.Counts.{output_turns-blocks}
use Rattle.standard.proofs.Lengths.{length-output_turns, length-filled}
use Rattle.drbg_hmac.specs.Keys.{ready}
use Rattle.drbg_shared.specs.Costs.{costing}
use Rattle.standard.specs.Hmac.{hmac}
use Rattle.drbg_shared.proofs.Outputs.{turn-stored, turns-are}
use Rattle.drbg_hmac.proofs.Turns.{output-more}
use Rattle.drbg_shared.proofs.Metered.{same_metered}
use Rattle.drbg_hmac.proofs.hmac_drbg.Keyed.output.Invariants.{made}
use Rattle.drbg_hmac.proofs.hmac_drbg.Keyed.output.Goals as goal

pub loop-at-init : goal.loop-at-init
unfolding output_turns
loop-at-init c = (refl, omega arith, refl, sym (take-nil (length c.args.out.now)), refl, refl)

pub loop-at-preserved : goal.loop-at-preserved
loop-at-preserved c =
    let l = c.loop-at in
    let u = c.args.self.now in
    let K = ready u.key in
    let v = c.hmac_of-v.result in
    let i = l.at / 32 in
    let turn : (l.at + 32) / 32 ≡ i + 1 = omega arith in
    let temp = (made u l.at).0 in
    let mac : costing 4 v ≡ hmac sha256 K l.self.v = c.hmac_of-v.ensures ∙ ap (λ k. hmac sha256 (ready k) l.self.v) l.invariant.5 in
    let more : made u (l.at + 32) ≡ (temp ++ v, v) =
    ap (λ i. (output_turns sha256 K u.v i).value) turn ∙ output-more K u.v i l.self.v v 4 l.invariant.4 mac in
    let size : length temp ≡ l.at = length-output_turns sha256 K u.v i ∙ omega arith in
    let whole : length v ≡ 32 = omega arith in (
      omega arith,
      omega arith,
      omega arith,
      turn-stored temp v l.out _ l.at _ more l.invariant.2 (omega arith) size whole l.invariant.3 c.store.ensures,
      sym (ap (λ t. t.1) more),
      l.invariant.5,
    )

pub returns-clause-is : goal.returns-clause-is
returns-clause-is c =
    let l = c.loop-at in
    let u = c.args.self.now in
    let turns = turns-are (length c.args.out.now) l.at l.invariant.0 (omega arith) l.invariant.1 in
    let one_block = length-filled sha256 u.key (omega arith) in
    sym
    (rw turns
    (same_metered (ap₂ (λ x y. (x, y)) (sym l.invariant.3 ∙ take_all l.at l.out (omega arith)) (sym l.invariant.4))
    (output_turns-blocks sha256 (lit< tt) (ready u.key) u.v (l.at / 32) one_block (omega arith))))
