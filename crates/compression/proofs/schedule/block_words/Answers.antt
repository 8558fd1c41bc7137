-- Each word is the block's own.
use Rattle.std.proofs.Common.{◌≡◌, ℕ, ◌<◌, get_or, rules}
use Rattle.standard.specs.Hash.{word_at}
use Rattle.standard.specs.Sha256.{sha256}
use Rattle.compression.proofs.Stores.{sixteen_words}
use Rattle.compression.proofs.schedule.block_words.Goals as goal

pub returns : goal.returns
returns c =
    let each : (t : ℕ) → t < 16 → get_or c.from_fn.result t 0 ≡ word_at sha256 c.args.block.now t = λ t h. search rules in
    sixteen_words _ _ c.from_fn.ensures.items.long each
