-- What the code answers, as values of the definitions.
use Rattle.std.specs.Prelude.{ℕ, ◌+◌, ◌-◌, ◌≤◌, ◌≡◌, Bool, true, List, length, drop, take, Option, Some, None}
use Rattle.std.specs.Borrow.{Bor}
use Rattle.rsp_line.specs.Hex.{is_hex, bytes_of}
use Rattle.rsp_line.specs.Names.{number_of}
use Rattle.rsp_line.specs.Lines.{Says, nothing, hash, resists, bits, counts, gives, unread, name_end, on_named}
use Rattle.rsp_line.specs.declared.line.Heading as Heading
use Rattle.rsp_line.specs.declared.line.Said.{Said}
use Rattle.rsp_line.specs.declared.line.Said.TheVariants as said

abbrev pub truth_said : Option Bool → Says
truth_said None = unread
truth_said (Some b) = resists b

abbrev pub heading_said : Option Heading.Heading → Says
heading_said None = unread
heading_said (Some (Heading.TheVariants.Hash ours)) = hash ours
heading_said (Some (Heading.TheVariants.Resists b)) = resists b
heading_said (Some (Heading.TheVariants.Bits name n)) = bits (number_of name) n

abbrev pub says_of : Option Said → Says
says_of None = unread
says_of (Some said.Nothing) = nothing
says_of (Some (said.Heading h)) = heading_said (Some h)
says_of (Some (said.Count n)) = counts n
says_of (Some (said.Field name digits)) = gives (number_of name) (bytes_of digits.now)

-- a field's digits are the last characters of the line, whole bytes, and of a line that has at most 4,096 characters
pub record Digits (s digits : List ℕ) : Type 0 where
  pub last : digits ≡ drop (length s - length digits) s
  pub whole : is_hex digits ≡ true
  pub short : length digits ≤ 4094

abbrev pub DigitsIn : (s : List ℕ) → Option Said → Type 0
DigitsIn s None = Unit {0}
DigitsIn s (Some said.Nothing) = Unit {0}
DigitsIn s (Some (said.Heading h)) = Unit {0}
DigitsIn s (Some (said.Count n)) = Unit {0}
DigitsIn s (Some (said.Field name digits)) = Digits s digits.now

-- ---- what the functions promise on the way

pub record Value (s value : List ℕ) : Type 0 where
  pub then : (f : (name value : List ℕ) → Says) → on_named f s ≡ f (take (name_end s) s) value
  pub last : value ≡ drop (length s - length value) s
  pub short : length value ≤ length s - (name_end s + 1)

-- what is said of a name's value is said of what stands behind the sign
abbrev pub Behind : (s : List ℕ) → Option (Bor (List ℕ)) → Type 0
Behind s None = (f : (name value : List ℕ) → Says) → on_named f s ≡ unread
Behind s (Some value) = Value s value.now
