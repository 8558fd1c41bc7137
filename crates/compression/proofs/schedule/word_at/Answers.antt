-- The sum is that of the four bytes in their places.
use Rattle.std.proofs.Common.{sym, arith}
use Rattle.compression.proofs.Load.{word_at-bytes}
use Rattle.compression.proofs.schedule.word_at.Goals as goal

pub returns : goal.returns
returns c =
    rw (c.from.ensures, c.from-2.ensures, c.from-3.ensures, c.from-4.ensures) (sym (word_at-bytes _ c.args.t (omega arith)))
