-- The case is opened on a table of zeros, and its steps are run on the table that the opening left, with an output of zeros.
use Rattle.std.proofs.Common.{drop}
use Rattle.rsp_run.proofs.Passing.{opening-refused, opening-served}
use Rattle.rsp_run.proofs.passes.Goals as goal

pub returns : goal.returns
returns c = λ number fields are.
    let opened = c.open_case-opened.ensures fields are in
    opening-served c.args.mechanism c.args.fresh fields number c.args.returned.now opened 2048 c.in-Ok.is c.requires
    (c.gives.ensures (drop 3 fields) opened.stand)

pub returns-in_default : goal.returns-in_default
returns-in_default c = λ number fields are.
    let opened = c.open_case-opened.ensures fields are in
    opening-refused c.args.mechanism c.args.fresh fields number c.args.returned.now opened c.in_default.is
