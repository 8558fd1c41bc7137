-- What a call by value hands back: its answer with the table's successor in it, and what the lent output then holds.
use Rattle.std.specs.Prelude.{ℕ, List}
use Rattle.table.specs.OnBytes.{Done, leaving, told_of}
use Rattle.doors.specs.declared.Answer.{Answer}

abbrev pub hands_back : Answer → (output : List ℕ) → Done
hands_back r output = leaving (told_of r.outcome) r.table.bytes output
