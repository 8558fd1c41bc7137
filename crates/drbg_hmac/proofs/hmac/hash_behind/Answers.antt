-- A pad block and 32 bytes are two blocks once they are padded (`hash_of_two`), and each is absorbed.
use Rattle.std.proofs.Common.{◌≡◌, length, sym, ap, ap₂, ◌∙◌, arith}
use Rattle.standard.specs.Hash.{compressed, digest}
use Rattle.standard.specs.Hmac.{xored, filled}
use Rattle.standard.specs.Sha256.{sha256}
use Rattle.compression.specs.Values.{eight_of}
use Rattle.drbg_shared.specs.Costs.{costing}
use Rattle.drbg_shared.proofs.Short.{hash_of_two}
use Rattle.drbg_hmac.proofs.hmac.hash_behind.Goals as goal

pub returns : goal.returns
returns c =
    let pad = xored c.args.pad (filled sha256 c.args.key.now) in
    let size : length pad ≡ 64 = sym (ap length c.pad_block-first.ensures) ∙ omega arith in
    let once : eight_of c.compress-once.result ≡ compressed sha256 sha256.initial pad =
    c.compress-once.ensures ∙ ap₂ (compressed sha256) c.initial.ensures c.pad_block-first.ensures in
    let twice = c.compress.ensures ∙ ap₂ (compressed sha256) once c.last_block-last.ensures in
    ap (λ s. costing 2 s) (c.bytes_of.ensures ∙ ap (digest sha256) twice) ∙ sym (hash_of_two pad c.args.v.now size (omega arith))
