-- Document 01, 'Sound table', a clause a line.
use Rattle.slots.specs.Sizes.{field_size}
use Rattle.std.specs.Prelude.{ℕ, zero, suc, ◌+◌, ◌^◌, Bool, true, ◌&&◌, ◌||◌, List, [], ◌∷◌, length, drop, ◌==◌, nat_le}
use Rattle.slots.specs.declared.slot.Slot.{Slot}
use Rattle.slots.specs.Layout.{Table, slot_at, last_serial}

unfoldable pub all_zero : List ℕ → Bool
all_zero [] = true
all_zero (b ∷ s) = b == 0 && all_zero s

abbrev pub between : (least x most : ℕ) → Bool
between least x most = nat_le least x && nat_le x most

-- a free slot is all zero: its numbers
abbrev pub free_numbers : Slot → Bool
free_numbers s =
    (s.mechanism == 0) &&
    (s.strength == 0) &&
    (s.interval == 0) &&
    (s.counter == 0) &&
    (s.fresh == 0) &&
    (s.serial == 0)

-- and its fields of 55 bytes
abbrev pub free_field : List ℕ → Bool
free_field field = length field == field_size && all_zero field

unfoldable pub free_sound : Slot → Bool
free_sound s = free_numbers s && free_field s.first && free_field s.second

-- a used slot: mechanism 1 or 2, one of the four strengths, interval 1 to 2^48, counter 1 to interval + 1, a fresh right of yes
-- or no, serial 1 to the last serial
abbrev pub used_numbers : (last : ℕ) → Slot → Bool
used_numbers last s =
    (s.mechanism == 1 || s.mechanism == 2) &&
    (s.strength == 112 || s.strength == 128 || s.strength == 192 || s.strength == 256) &&
    between 1 s.interval (2 ^ 48) &&
    between 1 s.counter (s.interval + 1) &&
    nat_le s.fresh 1 &&
    between 1 s.serial last

-- and fields of 55 bytes: Hash_DRBG uses all, HMAC_DRBG the first 32, and the other 23 are zero
abbrev pub used_field : (mechanism : ℕ) → List ℕ → Bool
used_field mechanism field = length field == field_size && (mechanism == 2 || all_zero (drop 32 field))

unfoldable pub used_sound : (last : ℕ) → Slot → Bool
used_sound last s = used_numbers last s && used_field s.mechanism s.first && used_field s.mechanism s.second

unfoldable pub sound_slot : (last : ℕ) → Slot → Bool
sound_slot last s = free_sound s || used_sound last s

-- the first n slots are sound
unfoldable pub sound_slots : Table → (n : ℕ) → Bool
sound_slots t zero = true
sound_slots t (suc n) = sound_slots t n && sound_slot (last_serial t) (slot_at t n)

unfoldable pub sound : Table → Bool
sound t = sound_slots t 16
