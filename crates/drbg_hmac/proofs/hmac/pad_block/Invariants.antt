-- The first i bytes are xored after i turns; the pad, which zeros xor to, stands behind them from the start.
use Rattle.std.proofs.Common.{◌≡◌, length, take, drop}
use Rattle.standard.specs.Hmac.{xored}
use Rattle.drbg_hmac.proofs.hmac.pad_block.Given as goal

abbrev pub invariant-loop-i : goal.invariant-loop-i
invariant-loop-i l =
    (length l.block ≡ 64) × (take l.i l.block ≡ xored l.pad (take l.i l.key)) × (drop 32 l.block ≡ drop 32 l.initial.block)
