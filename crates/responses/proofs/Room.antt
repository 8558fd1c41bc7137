-- A line's words are at most twenty digits and thirteen characters more. Assumes nothing.
use Rattle.std.proofs.Common.{length-append, append_assoc}
use Rattle.text.proofs.Digits.{length-decimal}

-- how long a line is, and how its pieces stand one behind the other
pub ruleset pieces = (length-append, length-decimal, append_assoc)
