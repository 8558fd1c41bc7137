-- A table in 2,148 bytes: its 16 slots, then the last serial in 4.
use Rattle.slots.specs.Sizes.{slot_size, last_at, table_size}
use Rattle.std.specs.Prelude.{ℕ, zero, suc, Bool, ◌&&◌, List, [], ◌∷◌, ◌++◌, length, take, drop, ◌==◌}
use Rattle.slots.specs.Sound.{sound}
use Rattle.slots.specs.declared.slot.Slot.{Slot}
use Rattle.slots.specs.Layout.{Table}
use Rattle.slots.specs.Numbers.{part, from_little_endian, little_endian}
use Rattle.slots.specs.Slots.{slot_bytes, slot_from}

unfoldable pub slots_bytes : List Slot → List ℕ
slots_bytes [] = []
slots_bytes (s ∷ slots) = slot_bytes s ++ slots_bytes slots

unfoldable pub table_bytes : Table → List ℕ
table_bytes t = slots_bytes t.slots ++ little_endian 4 t.last

-- the first n slots
unfoldable pub slots_from : (n : ℕ) → List ℕ → List Slot
slots_from zero s = []
slots_from (suc n) s = slot_from (take slot_size s) ∷ slots_from n (drop slot_size s)

unfoldable pub table_of : List ℕ → Table
table_of s = record { slots = slots_from 16 s; last = from_little_endian (part last_at 4 s) }

-- bytes of any other length are no table
abbrev pub sound_bytes : List ℕ → Bool
sound_bytes s = length s == table_size && sound (table_of s)
