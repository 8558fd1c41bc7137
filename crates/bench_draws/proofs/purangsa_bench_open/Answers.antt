-- Out of the limits nothing is done; within them the opening's two fields are put in place of the caller's. Assumes nothing.
use Rattle.std.proofs.Common.{◌≡◌, [], sym, ap, ◌∙◌}
use Rattle.drbg_shared.specs.Generator.{led_on}
use Rattle.bench_draws.specs.Held.{held_in}
use Rattle.bench_draws.proofs.Limits.{opened-not, opened_so}
use Rattle.bench_draws.proofs.purangsa_bench_open.Goals as goal

pub returns-then-not-in_limits : goal.returns-then-not-in_limits
returns-then-not-in_limits c =
    let a = c.args in
    sym
    (opened-not a.mechanism a.entropy.now a.nonce.now a.first.now a.second.now
    (sym c.in_limits.ensures ∙ c.if-not-in_limits.true))

pub returns : goal.returns
returns c =
    let a = c.args in
    let blocks = c.opened-blocks.result in
    let r = led_on c.opened-blocks.new.first c.opened-blocks.new.second 1 blocks in
    let held : record { first = c.put.new.to; second = c.put-2.new.to; blocks = blocks; output = [] } ≡ held_in r [] =
    λ i. record { first = c.put.ensures i; second = c.put-2.ensures i; blocks = blocks; output = [] } in
    held ∙
    ap (λ s. held_in s []) c.opened-blocks.ensures.is ∙
    sym
    (opened_so a.mechanism a.entropy.now a.nonce.now a.first.now a.second.now
    (sym c.in_limits.ensures ∙ c.if-not-in_limits.false))
