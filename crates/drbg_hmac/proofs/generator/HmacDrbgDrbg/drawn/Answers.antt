-- Refreshed, filled and updated are the parts of the standard's draw, which `served-hmac` puts together. The sums fit since a draw of a
-- request within the limits is at most 8,288 blocks (`few-hmac`).
use Rattle.std.proofs.Common.{◌≡◌, ℕ, ◌+◌, ◌≤◌, ap, ◌∙◌, arith}
use Rattle.standard.specs.State.{State}
use Rattle.standard.specs.HmacDrbg.{update}
use Rattle.standard.specs.Sha256.{sha256}
use Rattle.drbg_shared.specs.Generator.{state_of}
use Rattle.drbg_hmac.specs.Keys.{keyed, held, held_for}
use Rattle.drbg_hmac.proofs.Standing.{served-hmac, few-hmac}
use Rattle.drbg_hmac.proofs.generator.HmacDrbgDrbg.drawn.Goals as goal

-- the state that stands in the slot
abbrev state : goal.After-put-2 → ℕ → State
state c counter = record { first = c.taken-keyed.result.key; second = c.taken-keyed.result.v; counter = counter }

module _ (c : goal.After-put-2) where
  last-is : held_for c.update-last.result c.update-last.new.self
      ≡ update sha256 c.args.additional.now
      (keyed c.refresh-begun.new.self.key c.output-output.new.self.v)
  last-is =
      c.update-last.ensures ∙
      ap (λ s. update sha256 s (held c.output-output.new.self)) c.one.ensures.is ∙
      ap (λ k. update sha256 c.args.additional.now (keyed k c.output-output.new.self.v)) c.output-output.ensures.key_stays

  few : c.refresh-begun.result + c.output-output.result + c.update-last.result ≤ 8288
  few =
      few-hmac (state c 0) _ c.args.additional.now _ _ _ _ _ _ c.refresh-begun.result c.output-output.result c.update-last.result
      (omega arith) c.refresh-begun.ensures c.output-output.ensures.is last-is (omega arith) c.requires.0 c.requires.1

pub overflow_add-result : goal.overflow_add-result
overflow_add-result c = record { fits = omega (arith, few c) }

pub overflow_add-result-2 : goal.overflow_add-result-2
overflow_add-result-2 c = record { fits = omega (arith, few c) }

pub returns-clause-is : goal.returns-clause-is
unfolding state_of
returns-clause-is c =
    rw (← c.taken-keyed.ensures.key, ← c.taken-keyed.ensures.v)
    (served-hmac (state c c.args._counter) _ _ _ _ _ _ _ _ _ _ _ (omega arith) c.refresh-begun.ensures
    c.output-output.ensures.is (last-is c)
    c.put.ensures.is c.put-2.ensures.is)

pub returns-clause-few : goal.returns-clause-few
returns-clause-few c = few c
