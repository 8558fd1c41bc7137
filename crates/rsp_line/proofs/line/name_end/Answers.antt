-- The first sign ends the name, or the line does.
use Rattle.std.proofs.Common.{eqb, rules, tests}
use Rattle.std.proofs.lemmas.Iterator.{YieldsList-from_slice}
use Rattle.std.proofs.lemmas.Iterator.Search.{position_from_yields_List}
use Rattle.rsp_line.proofs.Lines.{name_end_found}
use Rattle.rsp_line.proofs.line.name_end.Goals as goal

pub returns-clause-is : goal.returns-clause-is
returns-clause-is c =
    name_end_found c.args.s.now c.position.result
    (position_from_yields_List (λ x. eqb x 61) _ _ _ c.position.ensures.ran (YieldsList-from_slice c.args.s.now cc)
    (λ x b q k. search (rules, tests)))
