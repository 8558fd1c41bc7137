-- The other form of Maj.
use Rattle.std.proofs.Common.{arith}
use Rattle.compression.proofs.WordForms.{maj_form}
use Rattle.compression.proofs.words.maj.Goals as goal

pub returns : goal.returns
returns c = maj_form 32 c.args.x c.args.y c.args.z (omega arith) (omega arith) (omega arith)
