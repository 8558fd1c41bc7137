-- Out of the limits nothing is done; within them the successor's two fields are put in place of the caller's. Assumes nothing.
use Rattle.std.proofs.Common.{◌≡◌, ◌+◌, length, sym, ap₂, ◌∙◌}
use Rattle.standard.specs.Functions.{draw}
use Rattle.standard.specs.Sha256.{sha256}
use Rattle.drbg_shared.specs.Generator.{state_of, filled, holding, led_on}
use Rattle.drbg.specs.Mechanism.{mechanism_of}
use Rattle.bench_draws.specs.Held.{held_in}
use Rattle.bench_draws.proofs.Limits.{drawn-not, drawn_so}
use Rattle.bench_draws.proofs.purangsa_bench_draw.Goals as goal

pub returns-then-not-in_limits : goal.returns-then-not-in_limits
returns-then-not-in_limits c =
    let a = c.args in
    sym
    (drawn-not a.mechanism a.first.now a.second.now a.counter a.additional.now a.out.now
    (sym c.in_limits.ensures ∙ c.if-not-in_limits.true))

pub returns : goal.returns
returns c =
    let a = c.args in
    let m = mechanism_of a.mechanism in
    let blocks = c.drawn-blocks.result in
    let r = led_on c.drawn-blocks.new.first c.drawn-blocks.new.second (a.counter + 1) blocks in
    let out = c.drawn-blocks.new.out in
    let held : record { first = c.put.new.to; second = c.put-2.new.to; blocks = blocks; output = out } ≡ held_in r out =
    λ i. record { first = c.put.ensures i; second = c.put-2.ensures i; blocks = blocks; output = out } in
    let drawn =
    c.drawn-blocks.ensures.is ∙
    ap₂ (λ x y. filled (draw sha256 m (state_of m (holding x y a.counter)) (length a.out.now) a.additional.now))
    c.field_of-a.ensures c.field_of-b.ensures in
    let within = sym c.in_limits.ensures ∙ c.if-not-in_limits.false in
    held ∙
    sym
    (drawn_so a.mechanism a.first.now a.second.now a.counter a.additional.now a.out.now within (record { served = r; output = out }) drawn)
