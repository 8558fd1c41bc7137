-- The other form of Ch.
use Rattle.std.proofs.Common.{arith}
use Rattle.compression.proofs.WordForms.{ch_form}
use Rattle.compression.proofs.words.ch.Goals as goal

pub returns : goal.returns
returns c = ch_form 32 c.args.x c.args.y c.args.z (omega arith) (omega arith) (omega arith)
