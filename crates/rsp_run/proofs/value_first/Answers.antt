use Rattle.rsp_run.proofs.Passing.{value-some, value_none}
use Rattle.rsp_run.proofs.value_first.Goals as goal

pub returns-in-Some : goal.returns-in-Some
returns-in-Some c = λ fields are. value-some _ fields (c.in-Some.ensures.is fields are)

pub returns-in-None : goal.returns-in-None
returns-in-None c = λ fields are. value_none fields (c.in-None.ensures.is fields are)
