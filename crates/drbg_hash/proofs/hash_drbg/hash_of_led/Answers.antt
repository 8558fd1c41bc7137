-- 56 bytes and their padding are two blocks (`hash-of-led`), and each is absorbed. Assumes nothing.
use Rattle.std.proofs.Common.{◌≡◌, List, ◌++◌, length, set, replicate, ℕ, sym, ap, ap₂, ◌∙◌, arith}
use Rattle.standard.specs.Hash.{compressed, digest}
use Rattle.standard.specs.Sha256.{sha256}
use Rattle.compression.specs.Values.{eight_of}
use Rattle.copies.proofs.Pasted.{pasted}
use Rattle.drbg_shared.specs.Costs.{costing}
use Rattle.drbg_shared.proofs.Short.{hash-of-led, filling, ending}
use Rattle.drbg_hash.proofs.hash_drbg.hash_of_led.Goals as goal

pub returns : goal.returns
returns c =
    let lead : List ℕ = c.args.lead in
    let size : length lead ≡ 56 = omega arith in
    let first : c.copy.new.to ≡ lead ++ filling = c.copy.ensures ∙ pasted (set (replicate 64 0) 56 128) lead 0 56 size in
    let once : eight_of c.compress-once.result ≡ compressed sha256 sha256.initial (lead ++ filling) =
    c.compress-once.ensures ∙ ap₂ (compressed sha256) c.initial.ensures first in
    ap (λ s. costing 2 s)
    (c.bytes_of.ensures ∙ ap (digest sha256) (c.compress.ensures ∙ ap (λ h. compressed sha256 h ending) once)) ∙
    sym (hash-of-led lead size)
