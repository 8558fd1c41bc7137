-- Without data an update is its first half, with data both (`update-none`, `update-some`). The strings are short, so the count fits.
use Rattle.std.proofs.Common.{◌≡◌, ◌<◌, length, length-append, arith}
use Rattle.sha256.specs.Seed.{material}
use Rattle.drbg_hmac.specs.Keys.{held}
use Rattle.drbg_hmac.proofs.Updates.{half_count, update-none, update-some}
use Rattle.drbg_hmac.proofs.hmac_drbg.Keyed.update.Goals as goal

pub returns-then-len-eq0 : goal.returns-then-len-eq0
returns-then-len-eq0 c =
    let provided = material c.args.provided.now in
    let none : length provided ≡ 0 = simp length-append (omega arith) in
    update-none provided (held c.args.self.now) none c.half_update-once.ensures

pub overflow_add-result : goal.overflow_add-result
overflow_add-result c =
    let provided = material c.args.provided.now in
    let once = c.half_update-once in
    let n = half_count c.args.self.now.key c.args.self.now.v (omega arith) (omega arith) 0x00 provided once.ensures in
    let m = half_count once.new.self.key once.new.self.v (omega arith) (omega arith) 0x01 provided c.half_update-twice.ensures in
    record { fits = omega (arith, simp length-append at n, simp length-append at m) }

pub returns : goal.returns
returns c =
    let provided = material c.args.provided.now in
    let some : 0 < length provided = simp length-append (omega arith) in
    update-some provided (held c.args.self.now) some c.half_update-once.ensures c.half_update-twice.ensures
