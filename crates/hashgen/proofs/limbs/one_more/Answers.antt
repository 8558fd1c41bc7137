-- 1 is added before the byte behind V.
use Rattle.hashgen.proofs.Turns.{ready-more}
use Rattle.hashgen.proofs.limbs.one_more.Goals as goal

pub returns : goal.returns
returns c = λ v n ready. ready-more v n c.args.limbs c.plus.result c.plus.ensures ready
