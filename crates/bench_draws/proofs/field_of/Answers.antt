-- The first 55 bytes of 55 are all of them.
use Rattle.std.proofs.Common.{◌∙◌, take_all, arith}
use Rattle.bench_draws.proofs.field_of.Goals as goal

pub returns : goal.returns
returns c = c.part.ensures ∙ take_all 55 c.args.s.now (omega arith)
