-- The tests of all bytes, joined.
use Rattle.std.proofs.Common.{◌∙◌, eqb, ◌&&◌, true, rules, tests}
use Rattle.std.proofs.lemmas.Iterator.{YieldsList-from_slice}
use Rattle.std.proofs.lemmas.Iterator.Consumers.{fold_from_yields_List}
use Rattle.slots.proofs.Zeros.{all_zero-fold}
use Rattle.slots.proofs.sound.is_zero.Goals as goal

pub returns : goal.returns
returns c =
    fold_from_yields_List _ (λ all byte. all && eqb byte 0) true _ c.fold.ensures.ran (YieldsList-from_slice c.args.s.now cc)
    (λ all x b q k. search (rules, tests)) ∙ all_zero-fold c.args.s.now
