-- An update of the first Key, which is made ready at no cost, and the first V.
use Rattle.std.proofs.Common.{◌++◌, replicate, refl, sym, ◌∙◌, add-zero, zero-add}
use Rattle.standard.specs.HmacDrbg.{instantiate}
use Rattle.drbg_hmac.specs.Keys.{keyed}
use Rattle.drbg_shared.specs.Generator.{served}
use Rattle.drbg_hmac.proofs.Pads.{key-ready}
use Rattle.drbg_hmac.proofs.Standing.{kept-update}
use Rattle.drbg_hmac.proofs.generator.HmacDrbgDrbg.opened.Goals as goal

pub returns-clause-is : goal.returns-clause-is
unfolding instantiate served
returns-clause-is c =
    let a = c.args in
    let seed = a.entropy.now ++ (a.nonce.now ++ a.personalization.now) in
    let u = keyed (replicate 32 0) (replicate 32 1) in
    let r = c.update-blocks in
    kept-update seed u r.new.self.key r.new.self.v r.result 1 r.ensures c.put.ensures.is c.put-2.ensures.is ∙
    sym (rw (key-ready (replicate 32 0) refl, zero-add, add-zero))
