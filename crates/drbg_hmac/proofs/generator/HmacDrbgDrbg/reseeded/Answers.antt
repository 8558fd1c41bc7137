-- An update of the Key and V that stand in the slot. It is within the bound since the strings are.
use Rattle.std.proofs.Common.{◌≡◌, ℕ, [], ◌++◌, sym, ap, ◌∙◌, append-nil, add-zero, zero-add, arith}
use Rattle.standard.specs.State.{State}
use Rattle.standard.specs.HmacDrbg.{reseed, update}
use Rattle.standard.specs.Functions.{HMAC_DRBG, reseeding}
use Rattle.standard.specs.Sha256.{sha256}
use Rattle.standard.proofs.Bound.{bounded}
use Rattle.drbg_hmac.specs.Keys.{held}
use Rattle.drbg_shared.specs.Generator.{served, state_of, led_on}
use Rattle.drbg_hmac.proofs.Standing.{kept-update, taken-ready}
use Rattle.drbg_hmac.proofs.generator.HmacDrbgDrbg.reseeded.Goals as goal

-- the state that stands in the slot
abbrev state : goal.After-put-2 → ℕ → State
state c counter = record { first = c.taken-keyed.result.key; second = c.taken-keyed.result.v; counter = counter }

module _ (c : goal.After-put-2) where
  is : (counter : ℕ) → led_on c.put.new.f c.put-2.new.f 1 c.update-blocks.result
      ≡ served (reseeding sha256 HMAC_DRBG (state c counter) c.args.entropy.now c.args.additional.now)
  unfolding reseed served
  is counter =
      let a = c.args in
      let r = c.update-blocks in
      let u = held c.taken-keyed.result in
      let joined : a.entropy.now ++ (a.additional.now ++ []) ≡ a.entropy.now ++ a.additional.now =
      ap (λ d. a.entropy.now ++ d) (append-nil a.additional.now) in
      kept-update (a.entropy.now ++ a.additional.now) u r.new.self.key r.new.self.v r.result 1
      (r.ensures ∙ ap (λ d. update sha256 d u) joined)
      c.put.ensures.is c.put-2.ensures.is ∙
      sym (rw (taken-ready (state c counter) (omega arith), zero-add, add-zero))

pub returns-clause-is : goal.returns-clause-is
unfolding state_of
returns-clause-is c = λ counter. is c counter ∙ rw (← c.taken-keyed.ensures.key, ← c.taken-keyed.ensures.v)

pub returns-clause-few : goal.returns-clause-few
unfolding served
returns-clause-few c =
    let bound =
    (bounded HMAC_DRBG).reseeding (state c 0) c.args.entropy.now c.args.additional.now
    (record { first = omega arith; second = omega arith })
    (omega arith) (omega arith) in
    rw (ap (λ s. s.blocks) (is c 0)) bound
