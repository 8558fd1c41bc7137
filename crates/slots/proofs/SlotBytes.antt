-- A slot and its 134 bytes: nothing is lost either way. Assumes nothing.
use Rattle.slots.specs.Sizes.{field_size, interval_at, counter_at, fresh_at, serial_at, first_at, second_at, slot_size}
use Rattle.std.proofs.Common.{◌≡◌, ℕ, ◌+◌, ◌<◌, ◌≤◌, List, [], ◌∷◌, ◌++◌, length, get_or, take, drop, sym, refl, ap, ◌∙◌, ap₂, le_of_eq}
use Rattle.std.proofs.Common.{arith, lit≤, length-append, get_or-drop, take_all, drop-cons, get_or-take, take-take}
use Rattle.std.proofs.Common.{take_at, take-add, drop_at}
use Rattle.standard.specs.Strings.{Bytes}
use Rattle.standard.proofs.Strings.{bytes_take, bytes_drop}
use Rattle.slots.specs.declared.slot.Slot.{Slot}
use Rattle.slots.specs.Numbers.{part, from_little_endian, little_endian}
use Rattle.slots.specs.Slots.{slot_bytes, slot_from}
use Rattle.slots.specs.Machine.{Fits}
use Rattle.slots.proofs.LittleEndian.{length-little_endian, from-little_endian, little_endian_from, length_part}

-- from the bytes to the slot and back: field after field
module _ (p : List ℕ) (b : Bytes p) (sized : length p ≡ slot_size) where
  take_more : {a : List ℕ} (at n : ℕ) (c : List ℕ) → take at p ≡ a → c ≡ part at n p → take (at + n) p ≡ a ++ c
  take_more at n c front is = take-add at n p ∙ ap₂ ◌++◌ front (sym is)

  number : (at n : ℕ) → at + n ≤ slot_size → little_endian n (from_little_endian (part at n p)) ≡ part at n p
  number at n room = little_endian_from n (bytes_take n (bytes_drop at b)) (length_part at n p (omega (arith, sized)))

  byte : (at : ℕ) → at < slot_size → get_or p at 0 ∷ [] ≡ part at 1 p
  byte at room = sym (ap (take 1) (drop-cons p at 0 (omega (arith, sized))))

  pub bytes-slot_from : slot_bytes (slot_from p) ≡ p
  unfolding slot_bytes slot_from
  bytes-slot_from =
      let f1 = take_more 0 1 _ refl (byte 0 (omega arith)) in
      let f2 = take_more 1 2 _ f1 (number 1 2 (omega arith)) in
      let f3 = take_more interval_at 8 _ f2 (number interval_at 8 (omega arith)) in
      let f4 = take_more counter_at 8 _ f3 (number counter_at 8 (omega arith)) in
      let f5 = take_more fresh_at 1 _ f4 (byte fresh_at (omega arith)) in
      let f6 = take_more serial_at 4 _ f5 (number serial_at 4 (omega arith)) in
      let f7 = take_more first_at field_size _ f6 refl in
      let f8 = take_more second_at field_size _ f7 refl in
      sym f8 ∙ take_all slot_size p (le_of_eq sized)

-- a front, and what stands behind it
length_more : (a b : List ℕ) (m n : ℕ) → length a ≡ m → length b ≡ n → length (a ++ b) ≡ m + n
length_more a b m n first second = grind (arith, length-append)

part-behind : (p a b : List ℕ) (at n : ℕ) → length a ≡ at → take at p ≡ a → take (at + n) p ≡ a ++ b → part at n p ≡ b
part-behind p a b at n sized front whole =
    sym (drop_at a (part at n p) at sized) ∙
    ap (drop at) (sym (take-add at n p ∙ ap (λ u. u ++ part at n p) front) ∙ whole) ∙
    drop_at a b at sized

front_of : (p a b : List ℕ) (at wider : ℕ) → at ≤ wider → take wider p ≡ a ++ b → length a ≡ at → take at p ≡ a
front_of p a b at wider order front sized = grind (arith, take-take at wider p order, take_at a b at sized)

byte_of : (p : List ℕ) (at : ℕ) {b : ℕ} → part at 1 p ≡ b ∷ [] → get_or p at 0 ≡ b
byte_of p at {b} is = grind (arith, get_or-drop at p 0 0, get_or-take 1 (drop at p) 0 0)

-- from the slot to the bytes and back: each field stands where it is read
module _ (s : Slot) (fits : Fits s) where
  record Stands : Type 0 where
    strength : part 1 2 (slot_bytes s) ≡ little_endian 2 s.strength
    interval : part interval_at 8 (slot_bytes s) ≡ little_endian 8 s.interval
    counter : part counter_at 8 (slot_bytes s) ≡ little_endian 8 s.counter
    fresh : part fresh_at 1 (slot_bytes s) ≡ s.fresh ∷ []
    serial : part serial_at 4 (slot_bytes s) ≡ little_endian 4 s.serial
    first : part first_at field_size (slot_bytes s) ≡ s.first
    second : part second_at field_size (slot_bytes s) ≡ s.second
    all : length (slot_bytes s) ≡ slot_size

  stands : Stands
  unfolding slot_bytes
  stands =
      let p = slot_bytes s in
      let a1 = s.mechanism ∷ [] in
      let a2 = a1 ++ little_endian 2 s.strength in
      let a3 = a2 ++ little_endian 8 s.interval in
      let a4 = a3 ++ little_endian 8 s.counter in
      let a5 = a4 ++ (s.fresh ∷ []) in
      let a6 = a5 ++ little_endian 4 s.serial in
      let a7 = a6 ++ s.first in
      let n2 = length_more a1 (little_endian 2 s.strength) 1 2 refl (length-little_endian 2 s.strength) in
      let n3 = length_more a2 (little_endian 8 s.interval) interval_at 8 n2 (length-little_endian 8 s.interval) in
      let n4 = length_more a3 (little_endian 8 s.counter) counter_at 8 n3 (length-little_endian 8 s.counter) in
      let n5 = length_more a4 (s.fresh ∷ []) fresh_at 1 n4 refl in
      let n6 = length_more a5 (little_endian 4 s.serial) serial_at 4 n5 (length-little_endian 4 s.serial) in
      let n7 = length_more a6 s.first first_at field_size n6 fits.first in
      let n8 = length_more a7 s.second second_at field_size n7 fits.second in
      let t8 : take slot_size p ≡ p = take_all slot_size p (le_of_eq n8) in
      let t7 : take second_at p ≡ a7 = take_at a7 s.second second_at n7 in
      let t6 = front_of p a6 s.first first_at second_at (lit≤ tt) t7 n6 in
      let t5 = front_of p a5 (little_endian 4 s.serial) serial_at first_at (lit≤ tt) t6 n5 in
      let t4 = front_of p a4 (s.fresh ∷ []) fresh_at serial_at (lit≤ tt) t5 n4 in
      let t3 = front_of p a3 (little_endian 8 s.counter) counter_at fresh_at (lit≤ tt) t4 n3 in
      let t2 = front_of p a2 (little_endian 8 s.interval) interval_at counter_at (lit≤ tt) t3 n2 in
      record {
        strength = part-behind p a1 (little_endian 2 s.strength) 1 2 refl refl t2;
        interval = part-behind p a2 (little_endian 8 s.interval) interval_at 8 n2 t2 t3;
        counter = part-behind p a3 (little_endian 8 s.counter) counter_at 8 n3 t3 t4;
        fresh = part-behind p a4 (s.fresh ∷ []) fresh_at 1 n4 t4 t5;
        serial = part-behind p a5 (little_endian 4 s.serial) serial_at 4 n5 t5 t6;
        first = part-behind p a6 s.first first_at field_size n6 t6 t7;
        second = part-behind p a7 s.second second_at field_size n7 t7 t8;
        all = n8;
      }

  pub length-slot_bytes : length (slot_bytes s) ≡ slot_size
  length-slot_bytes = stands.all

  head_byte : get_or (slot_bytes s) 0 0 ≡ s.mechanism
  unfolding slot_bytes
  head_byte = refl

  pub slot_from-bytes : slot_from (slot_bytes s) ≡ s
  unfolding slot_from
  slot_from-bytes =
      grind (
        arith,
        head_byte,
        byte_of (slot_bytes s) fresh_at stands.fresh,
        stands.strength,
        stands.interval,
        stands.counter,
        stands.serial,
        stands.first,
        stands.second,
        from-little_endian 2 s.strength fits.strength,
        from-little_endian 8 s.interval fits.interval,
        from-little_endian 8 s.counter fits.counter,
        from-little_endian 4 s.serial fits.serial,
      )
