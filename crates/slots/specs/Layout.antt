-- Document 01's table: 16 slots and the last serial given. Definitions and proofs reach them through these alone, so that a change of
-- the layout moves a handful of laws. A `Slot` is the struct of src/slot.rt: mechanism (0: free), strength, interval, counter, fresh
-- right, serial, and the two fields.
use Rattle.slots.specs.Sizes.{field_size}
use Rattle.std.specs.Prelude.{ℕ, List, [], replicate, slice_index_or, slice_set}
use Rattle.slots.specs.declared.slot.Slot.{Slot}

pub record Table : Type 0 where
  pub slots : List Slot
  pub last : ℕ

-- every number zero, with this for both fields
abbrev pub zero_slot : List ℕ → Slot
zero_slot field =
    record { mechanism = 0; strength = 0; interval = 0; counter = 0; fresh = 0; serial = 0; first = field; second = field }

abbrev pub free_slot : Slot
free_slot = zero_slot (replicate field_size 0)

-- what stands past the last slot: of no table that the code can hold
abbrev pub no_slot : Slot
no_slot = zero_slot []

unfoldable pub slot_at : Table → ℕ → Slot
slot_at t i = slice_index_or t.slots i no_slot

unfoldable pub with_slot : Table → ℕ → Slot → Table
with_slot t i s = record { slots = slice_set t.slots i s; last = t.last }

unfoldable pub last_serial : Table → ℕ
last_serial t = t.last

unfoldable pub with_last_serial : Table → ℕ → Table
with_last_serial t serial = record { slots = t.slots; last = serial }

unfoldable pub fresh_table : Table
fresh_table = record { slots = replicate 16 free_slot; last = 0 }
