-- What a table in the caller's bytes can hold: numbers in their widths, fields of 55 bytes.
use Rattle.std.specs.Prelude.{◌≡◌, ℕ, ◌^◌, ◌<◌, length}
use Rattle.slots.specs.Sizes.{field_size}
use Rattle.slots.specs.Layout.{Table, slot_at}
use Rattle.slots.specs.declared.slot.Slot.{Slot}

-- a slot of machine numbers
pub record Fits (s : Slot) : Type 0 where
  pub strength : s.strength < 2 ^ 16
  pub interval : s.interval < 2 ^ 64
  pub counter : s.counter < 2 ^ 64
  pub serial : s.serial < 2 ^ 32
  pub first : length s.first ≡ field_size
  pub second : length s.second ≡ field_size

-- a table of 16 such slots
pub record Machine (t : Table) : Type 0 where
  pub sixteen : length t.slots ≡ 16
  pub fit : (i : ℕ) → i < 16 → Fits (slot_at t i)
  pub last : t.last < 2 ^ 32
