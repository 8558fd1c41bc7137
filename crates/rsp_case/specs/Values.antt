-- What the code answers, as values of the definitions.
use Rattle.std.specs.Prelude.{ℕ, ◌+◌, ◌≡◌}
use Rattle.rsp_case.specs.Points.{Next, Goes, Keeps, Whole, PassedOver, Unread}
use Rattle.rsp_case.specs.declared.point.Next as next
use Rattle.rsp_case.specs.declared.store.Took.{Took}

abbrev pub next_of : next.Next → Next
next_of (next.TheVariants.Goes p) = Goes p
next_of (next.TheVariants.Keeps p) = Keeps p
next_of (next.TheVariants.Whole p n) = Whole p
next_of (next.TheVariants.PassedOver p) = PassedOver p
next_of next.TheVariants.Unread = Unread

-- where a case is whole, n bytes were returned
abbrev pub Returns : (n : ℕ) → next.Next → Type 0
Returns n (next.TheVariants.Goes p) = Unit {0}
Returns n (next.TheVariants.Keeps p) = Unit {0}
Returns n (next.TheVariants.Whole p m) = m ≡ n
Returns n (next.TheVariants.PassedOver p) = Unit {0}
Returns n next.TheVariants.Unread = Unit {0}

-- how many bytes were returned
abbrev pub returned_by : next.Next → ℕ
returned_by (next.TheVariants.Goes p) = 0
returned_by (next.TheVariants.Keeps p) = 0
returned_by (next.TheVariants.Whole p n) = n
returned_by (next.TheVariants.PassedOver p) = 0
returned_by next.TheVariants.Unread = 0

-- where what was returned ends
abbrev pub stop_of : Took → ℕ
stop_of took = took.used + returned_by took.next
