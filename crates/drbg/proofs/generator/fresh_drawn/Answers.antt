-- A reseed leaves the counter at 1, so the draw may follow; both together are the standard's fresh draw (`fresh-drawn`).
use Rattle.std.proofs.Common.{length}
use Rattle.drbg_shared.specs.Generator.{state_of, holding}
use Rattle.drbg.specs.Mechanism.{mechanism_of}
use Rattle.drbg.proofs.Fresh.{fresh-drawn}
use Rattle.drbg.proofs.generator.fresh_drawn.Goals as goal

pub returns : goal.returns
returns c =
    let a = c.args in
    let m = mechanism_of a.mechanism in
    let seeded = c.reseeded-seeded in
    let last = c.drawn-last in
    record {
      is = λ counter.
          fresh-drawn m (state_of m (holding a.first.now a.second.now counter)) (length a.out.now) a.entropy.now a.additional.now
          seeded.new.first seeded.new.second seeded.result last.new.first last.new.second last.result last.new.out
          (seeded.ensures.is counter) last.ensures.is;
    }
