-- The length's eight bytes behind the first 56, and nothing behind them.
use Rattle.std.proofs.Common.{◌++◌, ◌≤◌, length, take, drop, ap, ap₂, ◌∙◌, append-nil, drop_of_length-le, length-drop, arith}
use Rattle.sha256.proofs.Scratch.{high_first}
use Rattle.sha256.proofs.padding.with_length.Goals as goal

pub returns : goal.returns
returns c =
    let old = c.args.old in
    let short : length (drop 56 old) ≤ 8 = omega (arith, length-drop 56 old) in
    let bytes = c.copy_from_slice.ensures.after ∙ c.to_be_bytes.ensures ∙ high_first 8 c.args.bits in
    ap (λ b. take 56 old ++ b) (ap₂ ◌++◌ bytes (drop_of_length-le (drop 56 old) short) ∙ append-nil _)
