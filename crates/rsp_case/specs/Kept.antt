-- What is promised of the store when a line was taken: a field is kept behind the others, what was returned stands behind them, or
-- nothing is changed.
use Rattle.std.specs.Prelude.{ℕ, ◌≤◌, ◌<◌, ◌≡◌, List, length}
use Rattle.text.specs.Writing.{Appends}
use Rattle.rsp_case.specs.Cases.{Field}
use Rattle.rsp_case.specs.Store.{field_bytes}
use Rattle.rsp_case.specs.Points.{Next, Goes, Keeps, Whole, PassedOver, Unread}

-- a field that is kept or was returned is inside a store of 65,536 bytes, and a name that is kept fits a byte
abbrev pub Placed : (size name : ℕ) → Next → Type 0
Placed size name (Goes p) = Unit {0}
Placed size name (Keeps p) = (size ≤ 65536) × (name < 256)
Placed size name (Whole p) = size ≤ 65536
Placed size name (PassedOver p) = Unit {0}
Placed size name Unread = Unit {0}

abbrev pub Kept : Next → Field → (old : List ℕ) (used : ℕ) (new : List ℕ) (used' stop : ℕ) → Type 0
Kept (Goes p) f old used new used' stop = (used' ≡ used) × (new ≡ old)
Kept (Keeps p) f old used new used' stop = Appends old used (field_bytes f) used' new
Kept (Whole p) f old used new used' stop = (used' ≡ used) × Appends old used f.value stop new × (length f.value < 2048)
Kept (PassedOver p) f old used new used' stop = (used' ≡ used) × (new ≡ old)
Kept Unread f old used new used' stop = (used' ≡ used) × (new ≡ old)
