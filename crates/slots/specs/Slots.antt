-- One slot in 134 bytes: mechanism 1, strength 2, interval 8, counter 8, fresh 1, serial 4, first 55, second 55, with no gap.
use Rattle.slots.specs.Sizes.{field_size, strength_at, interval_at, counter_at, fresh_at, serial_at, first_at, second_at}
use Rattle.std.specs.Prelude.{ℕ, List, [], ◌∷◌, ◌++◌, slice_index}
use Rattle.slots.specs.declared.slot.Slot.{Slot}
use Rattle.slots.specs.Numbers.{part, from_little_endian, little_endian}

unfoldable pub slot_bytes : Slot → List ℕ
slot_bytes s =
    (s.mechanism ∷ []) ++
    little_endian 2 s.strength ++
    little_endian 8 s.interval ++
    little_endian 8 s.counter ++
    (s.fresh ∷ []) ++
    little_endian 4 s.serial ++
    s.first ++
    s.second

unfoldable pub slot_from : List ℕ → Slot
slot_from s =
    record {
      mechanism = slice_index s 0;
      strength = from_little_endian (part strength_at 2 s);
      interval = from_little_endian (part interval_at 8 s);
      counter = from_little_endian (part counter_at 8 s);
      fresh = slice_index s fresh_at;
      serial = from_little_endian (part serial_at 4 s);
      first = part first_at field_size s;
      second = part second_at field_size s;
    }
