-- Document 01, 'Slots, handles and counters': handles, and the lowest free slot. Handle = 16 × serial + slot.
use Rattle.std.specs.Prelude.{ℕ, zero, suc, ◌+◌, ◌*◌, ◌/◌, ◌%◌, Bool, cond, not, ◌&&◌, ◌==◌, Option, Some, None}
use Rattle.slots.specs.declared.slot.Slot.{Slot}
use Rattle.slots.specs.Layout.{Table, slot_at}

abbrev pub handle_of : (serial i : ℕ) → ℕ
handle_of serial i = 16 * serial + i

abbrev pub in_use : Slot → Bool
in_use s = not (s.mechanism == 0)

-- the slot that a handle speaks of
abbrev pub slot_of : Table → (handle : ℕ) → Slot
slot_of t handle = slot_at t (handle % 16)

-- a handle names a generator when its slot is in use with its serial
unfoldable pub names : Table → (handle : ℕ) → Bool
names t handle = in_use (slot_of t handle) && (slot_of t handle).serial == handle / 16

unfoldable pub look_up : Table → (handle : ℕ) → Option ℕ
look_up t handle = cond (names t handle) (Some (handle % 16)) None

-- the cases of a look-up, with document 01's number for each: the slot of the generator that the handle names; or nothing
abbrev pub look_up_number : Option ℕ → ℕ
look_up_number (Some i) = 0
look_up_number None = 2

abbrev pub named : Option ℕ → Bool
named found = look_up_number found == 0

-- the lowest free one of the n slots from `from` on, or the number past them
unfoldable pub lowest_free : Table → (from n : ℕ) → ℕ
lowest_free t from zero = from
lowest_free t from (suc n) = cond (in_use (slot_at t from)) (lowest_free t (from + 1) n) from
