-- The word stored is the standard's sum of four, of words that stand in their places.
use Rattle.std.proofs.Common.{arith, rules}
use Rattle.standard.specs.Sha256.{sha256}
use Rattle.standard.proofs.Ring.{extended_once}
use Rattle.compression.proofs.schedule.with_next.Goals as goal

pub returns : goal.returns
returns c =
    let a = c.args in
    extended_once sha256 a.words a.t _ (search rules) (omega arith) (omega arith) (rw (c.lower_sigma_0.ensures, c.lower_sigma_1.ensures))
