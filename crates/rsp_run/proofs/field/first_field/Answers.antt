-- The two bytes behind the name say how many follow.
use Rattle.std.proofs.Common.{rules}
use Rattle.rsp_run.proofs.Fields.{field_first}
use Rattle.rsp_run.proofs.field.first_field.Goals as goal

pub returns-clause-is : goal.returns-clause-is
returns-clause-is c =
    field_first _ _ c.from_be_bytes-length.ensures _ _ c.in-len3-up.len_at_least (search rules) (search rules)
