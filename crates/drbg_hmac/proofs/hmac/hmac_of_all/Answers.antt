-- The hash of all behind the inner pad, then the hash of that behind the outer one (`hmac-is`). The strings are short, so the count fits.
use Rattle.std.proofs.Common.{◌++◌, ◌∷◌, ap, ◌∙◌, length-append, arith}
use Rattle.standard.specs.Hash.{hash}
use Rattle.standard.specs.Sha256.{sha256}
use Rattle.standard.proofs.Counts.{sha256-hash}
use Rattle.sha256.specs.Seed.{material}
use Rattle.drbg_hmac.proofs.Pads.{hmac-is}
use Rattle.drbg_hmac.proofs.hmac.hmac_of_all.Goals as goal

pub overflow_add-result : goal.overflow_add-result
overflow_add-result c =
    record { fits = omega (arith, simp length-append at (ap (λ d. d.blocks) c.hash_joined-inner.ensures ∙ sha256-hash _)) }

pub returns : goal.returns
returns c =
    let a = c.args in
    let text = a.v.now ++ (a.separator ∷ material a.strings.now) in
    let behind = c.hash_joined-inner.ensures ∙ ap (λ p. hash sha256 (p ++ text)) c.pad_block-inner_pad.ensures in
    hmac-is a.key.now text _ _ _ behind c.hash_behind.ensures
