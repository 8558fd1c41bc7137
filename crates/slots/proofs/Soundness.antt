-- What a sound table's slots are, and that one sound slot more keeps a table sound. Assumes nothing.
use Rattle.slots.specs.Sizes.{field_size}
use Rattle.std.proofs.Common.{◌≡◌, ℕ, zero, suc, ◌+◌, ◌^◌, ◌<◌, ◌≤◌, true, ◌||◌, eqb, leb, ◌⊎◌, List, length, drop, sym, refl, ap}
use Rattle.std.proofs.Common.{◌∙◌, inl, inr, ⊎_elim, le_of_eq, arith, tests, eqb-true, leb-true}
use mathlib.Core.Bool.{false≢true}
use native.Mathlib.Decide.{dec_lt}
use lib.ListN.{get_or-eq_default}
use Rattle.slots.specs.Layout.{free_slot, no_slot, slot_at, with_slot, last_serial, with_last_serial, fresh_table, Table}
use Rattle.slots.specs.Sound.{all_zero, between, used_field, free_sound, used_sound, sound_slot, sound_slots, sound}
use Rattle.slots.specs.Handle.{in_use}
use Rattle.slots.specs.declared.slot.Slot.{Slot}
use Rattle.std.proofs.lemmas.Bool.{and_parts, and_from, or_cases, or_left, or_right}
use Rattle.slots.proofs.Slots.{Has, slot_at-cases, last_serial-with_slot, slot_at-with_last_serial, last_serial-with_last_serial}

-- a field of a used slot
pub record Field (mechanism : ℕ) (field : List ℕ) : Type 0 where
  pub bytes : length field ≡ field_size
  pub rest : (eqb mechanism 2 || all_zero (drop 32 field)) ≡ true

-- a used slot, as document 01 has it
pub record Used (last : ℕ) (s : Slot) : Type 0 where
  pub mechanism : (s.mechanism ≡ 1) ⊎ (s.mechanism ≡ 2)
  pub strength : (eqb s.strength 112 || eqb s.strength 128 || eqb s.strength 192 || eqb s.strength 256) ≡ true
  pub interval-some : 1 ≤ s.interval
  pub interval_most : s.interval ≤ 2 ^ 48
  pub counter-some : 1 ≤ s.counter
  pub counter_most : s.counter ≤ s.interval + 1
  pub fresh : s.fresh ≤ 1
  pub serial-some : 1 ≤ s.serial
  pub serial_most : s.serial ≤ last
  pub first : Field s.mechanism s.first
  pub second : Field s.mechanism s.second

field_of : (mechanism : ℕ) (field : List ℕ) → used_field mechanism field ≡ true → Field mechanism field
field_of mechanism field h =
    let parts = and_parts (eqb (length field) field_size) (eqb mechanism 2 || all_zero (drop 32 field)) h in
    record { bytes = eqb-true (length field) field_size parts.0; rest = parts.1 }

between_of : (least x most : ℕ) → between least x most ≡ true → (least ≤ x) × (x ≤ most)
between_of least x most h =
    let parts = and_parts (leb least x) (leb x most) h in (leb-true least x parts.0, leb-true x most parts.1)

module _ (last : ℕ) (s : Slot) where
  pub used_of : used_sound last s ≡ true → Used last s
  unfolding used_sound
  used_of h =
      let second = and_parts _ _ h in
      let first = and_parts _ _ second.0 in
      let serial = and_parts _ _ first.0 in
      let fresh = and_parts _ _ serial.0 in
      let counter = and_parts _ _ fresh.0 in
      let interval = and_parts _ _ counter.0 in
      let strength = and_parts _ _ interval.0 in
      record {
        mechanism = ⊎_elim (λ e. inl (eqb-true s.mechanism 1 e)) (λ e. inr (eqb-true s.mechanism 2 e)) (or_cases _ _ strength.0);
        strength = strength.1;
        interval-some = (between_of 1 s.interval (2 ^ 48) interval.1).0;
        interval_most = (between_of 1 s.interval (2 ^ 48) interval.1).1;
        counter-some = (between_of 1 s.counter (s.interval + 1) counter.1).0;
        counter_most = (between_of 1 s.counter (s.interval + 1) counter.1).1;
        fresh = leb-true s.fresh 1 fresh.1;
        serial-some = (between_of 1 s.serial last serial.1).0;
        serial_most = (between_of 1 s.serial last serial.1).1;
        first = field_of s.mechanism s.first first.1;
        second = field_of s.mechanism s.second second.1;
      }

  pub of_used : Used last s → used_sound last s ≡ true
  unfolding used_sound
  of_used u = grind (arith, tests)

  free_mechanism : free_sound s ≡ true → s.mechanism ≡ 0
  unfolding free_sound
  free_mechanism h = grind (arith, tests)

  -- a sound slot is free and all zero, or used
  pub sound-used : sound_slot last s ≡ true → in_use s ≡ true → Used last s
  unfolding sound_slot
  sound-used h used =
      ⊎_elim (λ free. let none = free_mechanism free in grind (arith, tests)) used_of (or_cases (free_sound s) (used_sound last s) h)

  pub used_so : Used last s → sound_slot last s ≡ true
  unfolding sound_slot
  used_so u = or_right (free_sound s) (used_sound last s) (of_used u)

slots_at : (t : Table) (n : ℕ) → sound_slots t n ≡ true → (i : ℕ) → i < n → sound_slot (last_serial t) (slot_at t i) ≡ true
unfolding sound_slots
slots_at t zero h i room = grind arith
slots_at t (suc n) h i room = grind (arith, tests, slots_at t n)

slots_all : (t : Table) (n : ℕ) → ((i : ℕ) → i < n → sound_slot (last_serial t) (slot_at t i) ≡ true) → sound_slots t n ≡ true
unfolding sound_slots
slots_all t zero h = refl
slots_all t (suc n) h = and_from _ _ (slots_all t n (λ i room. h i (omega arith))) (h n (omega arith))

pub sound-at : (t : Table) → sound t ≡ true → (i : ℕ) → i < 16 → sound_slot (last_serial t) (slot_at t i) ≡ true
unfolding sound
sound-at t = slots_at t 16

pub sound_all : (t : Table) → ((i : ℕ) → i < 16 → sound_slot (last_serial t) (slot_at t i) ≡ true) → sound t ≡ true
unfolding sound
sound_all t = slots_all t 16

pub free-sound : (last : ℕ) → sound_slot last free_slot ≡ true
unfolding sound_slot free_sound all_zero
free-sound last = refl

pub sound-fresh : sound fresh_table ≡ true
unfolding sound sound_slots sound_slot free_sound all_zero slot_at last_serial fresh_table
sound-fresh = refl

-- a sound table has all its slots
pub sound_has : (t : Table) → sound t ≡ true → (i : ℕ) → i < 16 → Has t i
unfolding slot_at sound_slot free_sound used_sound
sound_has t h i room = go (dec_lt i (length t.slots))
  where
    go : Dec (i < length t.slots) → Has t i
    go (yes there) = record { has = there }
    go (no past) =
        let none : slot_at t i ≡ no_slot = get_or-eq_default t.slots no_slot (omega (arith, past)) in
        absurd (false≢true (ap (sound_slot (last_serial t)) (sym none) ∙ sound-at t h i room))

-- a later last serial
sound-later : (last next : ℕ) (s : Slot) → last ≤ next → sound_slot last s ≡ true → sound_slot next s ≡ true
unfolding sound_slot
sound-later last next s order h =
    ⊎_elim (or_left (free_sound s) (used_sound next s))
    (λ used. let u = used_of last s used in or_right (free_sound s) (used_sound next s) (of_used next s (search arith)))
    (or_cases (free_sound s) (used_sound last s) h)

-- a table that differs from a sound one in sound slots, and in a later last serial, is sound
pub sound_changed : (t u : Table) → sound t ≡ true → last_serial t ≤ last_serial u
    → ((i : ℕ) → i < 16 → (sound_slot (last_serial u) (slot_at u i) ≡ true) ⊎ (slot_at u i ≡ slot_at t i)) → sound u ≡ true
sound_changed t u h order each =
    sound_all u
    (λ i room. grind (arith, each i room, sound-later (last_serial t) (last_serial u) (slot_at t i) order (sound-at t h i room)))

pub sound-with_slot : (t : Table) (i : ℕ) (s : Slot) → sound t ≡ true → sound_slot (last_serial t) s ≡ true → sound (with_slot t i s) ≡ true
sound-with_slot t i s h new =
    sound_changed t (with_slot t i s) h (le_of_eq (sym (last_serial-with_slot t i s)))
    (λ j room. grind (arith, slot_at-cases t i s j, last_serial-with_slot t i s, new))

-- the same with the last serial set
pub sound-opened : (t : Table) (i serial : ℕ) (s : Slot) → sound t ≡ true → last_serial t ≤ serial → sound_slot serial s ≡ true
    → sound (with_last_serial (with_slot t i s) serial) ≡ true
sound-opened t i serial s h order new =
    let u = with_slot t i s in
    sound_changed t (with_last_serial u serial) h (rw last_serial-with_last_serial order)
    (λ j room. grind (arith, slot_at-cases t i s j, slot_at-with_last_serial u serial j, last_serial-with_last_serial u serial, new))
