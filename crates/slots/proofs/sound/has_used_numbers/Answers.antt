-- Test for test.
use Rattle.std.proofs.Common.{◌≡◌, ◌^◌, ◌||◌, eqb, rules, tests, arith}
use Rattle.slots.specs.Sound.{between}
use Rattle.slots.proofs.sound.has_used_numbers.Goals as goal

pub returns : goal.returns
returns c =
    let s = c.args.slot.now in
    let strength : c.match-matches.matches ≡ (eqb s.strength 112 || eqb s.strength 128 || eqb s.strength 192 || eqb s.strength 256) =
    search (rules, tests) in
    let interval : c.contains.result ≡ between 1 s.interval (2 ^ 48) =
    rw (c.contains.ensures.value, c.new.ensures.start, c.new.ensures.end, c.new.ensures.exhausted) (grind (arith, tests)) in
    let serial : c.contains-2.result ≡ between 1 s.serial c.args.last = search (rules, tests) in
    rw (strength, interval, c.counter_fits.ensures, serial)
