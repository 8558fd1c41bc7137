-- The code's text: what is written stands at the front of the lent buffer.
use Rattle.std.specs.Prelude.{ℕ, List, [], length, take}
use Rattle.std.specs.Borrow.{MutBor}
use Rattle.text.specs.Writing.{Written}
use Rattle.text.specs.declared.Text.{Text}

abbrev pub written : Text → Written
written t = record { text = take t.len t.out.now; size = length t.out.now; buffer = t.out.ghost_name }

-- nothing yet
abbrev pub cleared : Written → Written
cleared t = record t { text = [] }

abbrev pub none_in : MutBor (List ℕ) → Written
none_in out = record { text = []; size = length out.now; buffer = out.ghost_name }
