-- A table and its 2,148 bytes: nothing is lost either way, a slot or the last serial put in, and whose byte stands where. Assumes nothing.
use Rattle.slots.specs.Sizes.{field_size, strength_at, interval_at, counter_at, serial_at, first_at, second_at, slot_size, last_at}
use Rattle.slots.specs.Sizes.{table_size}
use Rattle.std.proofs.Common.{◌≡◌, ℕ, zero, suc, ◌+◌, ◌-◌, ◌*◌, ◌/◌, ◌%◌, ◌^◌, ◌<◌, ◌≤◌, List, [], ◌∷◌, ◌++◌, length, get_or, take, drop}
use Rattle.std.proofs.Common.{set, replicate, sym, refl, ap, ◌∙◌, subst, ap₂, append_assoc, suc-le-suc, le_of_eq}
use Rattle.std.proofs.Common.{le_of_suc-le-suc, not-suc-le-zero, zero-lt-suc, arith, lit≤, length-append, length-drop, take-append-drop}
use Rattle.std.proofs.Common.{length-take-le, get_or-drop, take_all, get_or-take, drop-drop, take_at, take-add}
use Rattle.std.proofs.Common.{drop_at}
use lib.Seq.{paste}
use Rattle.std.proofs.lemmas.Grind.{common_steps}
use Rattle.standard.specs.Strings.{number_of, Bytes}
use Rattle.standard.proofs.Strings.{bytes_take, bytes_drop}
use Rattle.slots.specs.Layout.{no_slot, slot_at, with_slot, last_serial, with_last_serial, fresh_table, Table}
use Rattle.slots.specs.declared.slot.Slot.{Slot}
use Rattle.slots.specs.Numbers.{part, from_little_endian, little_endian}
use Rattle.slots.specs.Slots.{slot_bytes, slot_from}
use Rattle.slots.specs.Machine.{Fits, Machine}
use Rattle.slots.specs.Bytes.{slots_bytes, table_bytes, slots_from, table_of}
use Rattle.slots.proofs.LittleEndian.{length-little_endian, from_below, from-little_endian, little_endian_from}
use Rattle.std.specs.Int.{w32, to_le_bytes}
use Rattle.slots.proofs.LittleEndian.{length_part, Front, front_number, front_all}
use Rattle.slots.proofs.SlotBytes.{bytes-slot_from, length-slot_bytes, slot_from-bytes}

next : (n : ℕ) → slot_size + slot_size * n ≡ slot_size * suc n
next n = omega arith

drop-next : (n : ℕ) (s : List ℕ) → drop (slot_size * n) (drop slot_size s) ≡ drop (slot_size * suc n) s
drop-next n s = drop-drop (slot_size * n) slot_size s ∙ ap (λ k. drop k s) (next n)

pub slots_at : (n i : ℕ) (s : List ℕ) → i < n → get_or (slots_from n s) i no_slot ≡ slot_from (part (slot_size * i) slot_size s)
unfolding slots_from
slots_at zero i s room = absurd (not-suc-le-zero room)
slots_at (suc n) zero s room = refl
slots_at (suc n) (suc i) s room =
    slots_at n i (drop slot_size s) (le_of_suc-le-suc room) ∙ ap (λ u. slot_from (take slot_size u)) (drop-next i s)

first_slot : (n : ℕ) (s : List ℕ) → Bytes s → slot_size * suc n ≤ length s → slot_bytes (slot_from (take slot_size s)) ≡ take slot_size s
first_slot n s b room = bytes-slot_from (take slot_size s) (bytes_take slot_size b) (length-take-le slot_size s (omega arith))

less : (n : ℕ) (s : List ℕ) → slot_size * suc n ≤ length s → slot_size * n ≤ length (drop slot_size s)
less n s room = rw length-drop (omega arith)

pub slots-bytes : (n : ℕ) (s : List ℕ) → Bytes s → slot_size * n ≤ length s → slots_bytes (slots_from n s) ++ drop (slot_size * n) s ≡ s
unfolding slots_bytes slots_from
slots-bytes zero s b room = refl
slots-bytes (suc n) s b room =
    append_assoc (slot_bytes (slot_from (take slot_size s))) (slots_bytes (slots_from n (drop slot_size s))) (drop (slot_size * suc n) s) ∙
    ap₂ (λ u v. u ++ (slots_bytes (slots_from n (drop slot_size s)) ++ v)) (first_slot n s b room) (sym (drop-next n s)) ∙
    ap (λ u. take slot_size s ++ u) (slots-bytes n (drop slot_size s) (bytes_drop slot_size b) (less n s room)) ∙
    take-append-drop slot_size s

-- slot i put in
pub slots_put : (n i : ℕ) (s : List ℕ) (x : Slot) → i < n → Bytes s → slot_size * n ≤ length s
    → slots_bytes (set (slots_from n s) i x) ++ drop (slot_size * n) s
    ≡ take (slot_size * i) s ++ (slot_bytes x ++ drop (slot_size * i + slot_size) s)
unfolding slots_bytes slots_from
slots_put zero i s x below b room = absurd (not-suc-le-zero below)
slots_put (suc n) zero s x below b room =
    grind (arith, common_steps, drop-next n s, slots-bytes n (drop slot_size s) (bytes_drop slot_size b) (less n s room))
slots_put (suc n) (suc i) s x below b room =
    let put = slots_bytes (set (slots_from n (drop slot_size s)) i x) in
    append_assoc (slot_bytes (slot_from (take slot_size s))) put (drop (slot_size * suc n) s) ∙
    ap₂ (λ u v. u ++ (put ++ v)) (first_slot n s b room) (sym (drop-next n s)) ∙
    ap (λ u. take slot_size s ++ u) (slots_put n i (drop slot_size s) x (le_of_suc-le-suc below) (bytes_drop slot_size b) (less n s room)) ∙
    behind i s x
  where
    behind : (i : ℕ) (s : List ℕ) (x : Slot)
        → take slot_size s ++ (take (slot_size * i) (drop slot_size s) ++ (slot_bytes x ++ drop (slot_size * i + slot_size)
        (drop slot_size s)))
        ≡ take (slot_size * suc i) s ++ (slot_bytes x ++ drop (slot_size * suc i + slot_size) s)
    behind i s x =
        let far : slot_size + (slot_size * i + slot_size) ≡ slot_size * suc i + slot_size = omega arith in
        let rest = drop slot_size s in
        sym (append_assoc (take slot_size s) (take (slot_size * i) rest) (slot_bytes x ++ drop (slot_size * i + slot_size) rest)) ∙
        ap₂ (λ u v. u ++ (slot_bytes x ++ v)) (sym (take-add slot_size (slot_size * i) s) ∙ ap (λ k. take k s) (next i))
        (drop-drop (slot_size * i + slot_size) slot_size s ∙ ap (λ k. drop k s) far)

module _ (s : List ℕ) (b : Bytes s) (sized : length s ≡ table_size) where
  last-bytes : little_endian 4 (from_little_endian (part last_at 4 s)) ≡ drop last_at s
  last-bytes =
      let left : length (drop last_at s) ≤ 4 = rw length-drop (omega (arith, sized)) in
      little_endian_from 4 (bytes_take 4 (bytes_drop last_at b)) (length_part last_at 4 s (omega (arith, sized))) ∙
      take_all 4 (drop last_at s) left

  room : slot_size * 16 ≤ length s
  room = omega (arith, sized)

  -- from the bytes to the table and back
  pub bytes-table_of : table_bytes (table_of s) ≡ s
  unfolding table_bytes table_of
  bytes-table_of = ap (λ u. slots_bytes (slots_from 16 s) ++ u) last-bytes ∙ slots-bytes 16 s b room

  -- a slot put in where it stands
  module _ (i : ℕ) (x : Slot) (below : i < 16) where
    abbrev place : ℕ
    place = slot_size * i

    put_is : table_bytes (with_slot (table_of s) i x) ≡ take place s ++ (slot_bytes x ++ drop (place + slot_size) s)
    unfolding table_bytes table_of with_slot
    put_is = ap (λ u. slots_bytes (set (slots_from 16 s) i x) ++ u) last-bytes ∙ slots_put 16 i s x below b room

    pub table_put : {p : List ℕ} → p ≡ slot_bytes x
        → take place s ++ (p ++ drop (place + slot_size - place) (drop place s)) ≡ table_bytes (with_slot (table_of s) i x)
    table_put is = grind (arith, common_steps, put_is, drop-drop slot_size place s, is)

    -- it changes no byte outside its place
    front_sized : length (take place s) ≡ place
    front_sized = length-take-le place s (omega (arith, sized))

    pub kept_before : take place (table_bytes (with_slot (table_of s) i x)) ≡ take place s
    kept_before = ap (take place) put_is ∙ take_at (take place s) (slot_bytes x ++ drop (place + slot_size) s) place front_sized

    pub kept-behind : Fits x → drop (place + slot_size) (table_bytes (with_slot (table_of s) i x)) ≡ drop (place + slot_size) s
    kept-behind fits =
        ap (drop (place + slot_size)) put_is ∙
        sym (drop-drop slot_size place (take place s ++ (slot_bytes x ++ drop (place + slot_size) s))) ∙
        ap (drop slot_size) (drop_at (take place s) (slot_bytes x ++ drop (place + slot_size) s) place front_sized) ∙
        drop_at (slot_bytes x) (drop (place + slot_size) s) slot_size (length-slot_bytes x fits)

-- a slot read where it stands
pub slot_read : (s : List ℕ) (i : ℕ) → i < 16
    → slot_from (take (slot_size * i + slot_size - slot_size * i) (drop (slot_size * i) s)) ≡ slot_at (table_of s) i
unfolding slot_at table_of
slot_read s i below =
    let whole : slot_size * i + slot_size - slot_size * i ≡ slot_size = omega arith in
    ap (λ n. slot_from (take n (drop (slot_size * i) s))) whole ∙ sym (slots_at 16 i s below)

-- the last serial put in
pub last_put : (u : Table) (serial : ℕ) {e f b : List ℕ} → e ≡ table_bytes u → length e ≡ table_size → b ≡ to_le_bytes w32 serial
    → f ≡ paste e last_at b (length b) → f ≡ table_bytes (with_last_serial u serial)
unfolding table_bytes with_last_serial
last_put u serial {e} {f} is sized written put =
    let parts : length (slots_bytes u.slots) + length (little_endian 4 u.last) ≡ table_size =
    sym (length-append (slots_bytes u.slots) (little_endian 4 u.last)) ∙ ap length (sym is) ∙ sized in
    let front : length (slots_bytes u.slots) ≡ last_at = omega (arith, parts, length-little_endian 4 u.last) in
    let front-is : Front table_size last_at (slots_bytes u.slots) e =
    record { is = ap (take last_at) is ∙ take_at (slots_bytes u.slots) (little_endian 4 u.last) last_at front; whole = sized } in
    front_all (front_number w32 serial front-is (omega arith) written put)

-- the bytes of the first slot, and those behind it
module _ (s : Slot) (fits : Fits s) (more rest : List ℕ) where
  own-bytes : take slot_size ((slot_bytes s ++ more) ++ rest) ≡ slot_bytes s
  own-bytes =
      ap (take slot_size) (append_assoc (slot_bytes s) more rest) ∙
      take_at (slot_bytes s) (more ++ rest) slot_size (length-slot_bytes s fits)

  bytes-behind : drop slot_size ((slot_bytes s ++ more) ++ rest) ≡ more ++ rest
  bytes-behind =
      ap (drop slot_size) (append_assoc (slot_bytes s) more rest) ∙
      drop_at (slot_bytes s) (more ++ rest) slot_size (length-slot_bytes s fits)

pub slots-from : (slots : List Slot) (rest : List ℕ) → ((i : ℕ) → i < length slots → Fits (get_or slots i no_slot))
    → slots_from (length slots) (slots_bytes slots ++ rest) ≡ slots
unfolding slots_bytes slots_from
slots-from [] rest fit = refl
slots-from (s ∷ slots) rest fit =
    let own = fit 0 (zero-lt-suc (length slots)) in
    ap₂ ◌∷◌ (ap slot_from (own-bytes s own (slots_bytes slots) rest) ∙ slot_from-bytes s own)
    (ap (slots_from (length slots)) (bytes-behind s own (slots_bytes slots) rest) ∙
    slots-from slots rest (λ i below. fit (suc i) (suc-le-suc below)))

-- the bytes in a slot's place are the slot's
slots-part : (slots : List Slot) (rest : List ℕ) → ((i : ℕ) → i < length slots → Fits (get_or slots i no_slot)) → (i : ℕ) → i < length slots
    → part (slot_size * i) slot_size (slots_bytes slots ++ rest) ≡ slot_bytes (get_or slots i no_slot)
unfolding slots_bytes
slots-part [] rest fit i room = absurd (not-suc-le-zero room)
slots-part (s ∷ slots) rest fit zero room = own-bytes s (fit 0 (zero-lt-suc (length slots))) (slots_bytes slots) rest
slots-part (s ∷ slots) rest fit (suc i) room =
    let behind = bytes-behind s (fit 0 (zero-lt-suc (length slots))) (slots_bytes slots) rest in
    let later = slots-part slots rest (λ j below. fit (suc j) (suc-le-suc below)) i (le_of_suc-le-suc room) in
    grind (arith, behind, later, drop-next i ((slot_bytes s ++ slots_bytes slots) ++ rest))

length-slots : (slots : List Slot) → ((i : ℕ) → i < length slots → Fits (get_or slots i no_slot))
    → length (slots_bytes slots) ≡ slot_size * length slots
unfolding slots_bytes
length-slots [] fit = refl
length-slots (s ∷ slots) fit =
    let own = length-slot_bytes s (fit 0 (zero-lt-suc (length slots))) in
    grind (arith, length-append, own, length-slots slots (λ i below. fit (suc i) (suc-le-suc below)))

module _ (t : Table) (m : Machine t) where
  fit : (i : ℕ) → i < length t.slots → Fits (get_or t.slots i no_slot)
  unfolding slot_at
  fit i below = m.fit i (subst (λ n. i < n) m.sixteen below)

  front : length (slots_bytes t.slots) ≡ last_at
  front = grind (arith, length-slots t.slots fit, m.sixteen)

  pub length-table_bytes : length (table_bytes t) ≡ table_size
  unfolding table_bytes
  length-table_bytes = grind (arith, length-append, front, length-little_endian 4 t.last)

  slot-part : (i : ℕ) → i < 16 → part (slot_size * i) slot_size (table_bytes t) ≡ slot_bytes (slot_at t i)
  unfolding table_bytes slot_at
  slot-part i room = slots-part t.slots (little_endian 4 t.last) fit i (subst (λ n. i < n) (sym m.sixteen) room)

  last-part : drop last_at (table_bytes t) ≡ little_endian 4 (last_serial t)
  unfolding table_bytes last_serial
  last-part = drop_at (slots_bytes t.slots) (little_endian 4 t.last) last_at front

  -- from the table to the bytes and back
  pub table_of-bytes : table_of (table_bytes t) ≡ t
  unfolding table_of table_bytes last_serial
  table_of-bytes =
      let last = little_endian 4 t.last in
      ap₂ (λ slots n. record { slots = slots; last = n })
      (ap (λ n. slots_from n (slots_bytes t.slots ++ last)) (sym m.sixteen) ∙ slots-from t.slots last fit)
      (ap (λ s. from_little_endian (take 4 s)) last-part ∙
      ap from_little_endian (take_all 4 last (le_of_eq (length-little_endian 4 t.last))) ∙
      from-little_endian 4 t.last m.last)

  -- the last serial put in changes no byte of the slots
  pub last-kept : (serial : ℕ) → take last_at (table_bytes (with_last_serial t serial)) ≡ take last_at (table_bytes t)
  unfolding table_bytes with_last_serial
  last-kept serial =
      take_at (slots_bytes t.slots) (little_endian 4 serial) last_at front ∙
      sym (take_at (slots_bytes t.slots) (little_endian 4 t.last) last_at front)

-- a byte by the slot in whose place it stands, or behind the slots
in_slot : (s : List ℕ) (at : ℕ) → get_or (part (slot_size * (at / slot_size)) slot_size s) (at % slot_size) 0 ≡ get_or s at 0
in_slot s at =
    let back : slot_size * (at / slot_size) + at % slot_size ≡ at = omega arith in
    get_or-take slot_size (drop (slot_size * (at / slot_size)) s) (at % slot_size) 0 (omega arith) ∙
    get_or-drop (slot_size * (at / slot_size)) s (at % slot_size) 0 ∙
    ap (λ k. get_or s k 0) back

in_last : (s : List ℕ) (at : ℕ) → last_at ≤ at → get_or (drop last_at s) (at - last_at) 0 ≡ get_or s at 0
in_last s at past =
    let back : last_at + (at - last_at) ≡ at = omega arith in
    get_or-drop last_at s (at - last_at) 0 ∙ ap (λ k. get_or s k 0) back

-- so two tables have the same byte there if they have the same slot, or the same last serial
module _ (t u : Table) (mt : Machine t) (mu : Machine u) (at : ℕ) where
  pub same-slot : at < last_at → slot_at u (at / slot_size) ≡ slot_at t (at / slot_size)
      → get_or (table_bytes u) at 0 ≡ get_or (table_bytes t) at 0
  same-slot before same =
      let i : ℕ = at / slot_size in
      grind (arith, same, in_slot (table_bytes u) at, in_slot (table_bytes t) at, slot-part u mu i, slot-part t mt i)

  pub same-last : last_at ≤ at → last_serial u ≡ last_serial t → get_or (table_bytes u) at 0 ≡ get_or (table_bytes t) at 0
  same-last past same =
      grind (arith, same, in_last (table_bytes u) at past, in_last (table_bytes t) at past, last-part u mu, last-part t mt)

-- all bytes zero are the fresh table
pub fresh-bytes : table_of (replicate table_size 0) ≡ fresh_table
unfolding table_of slots_from slot_from from_little_endian number_of fresh_table
fresh-bytes = refl

-- and any 2,148 bytes are a table of machine values
fits-slot_from : (p : List ℕ) → Bytes p → length p ≡ slot_size → Fits (slot_from p)
unfolding slot_from
fits-slot_from p b sized =
    record {
      strength = small strength_at 2 (lit≤ tt);
      interval = small interval_at 8 (lit≤ tt);
      counter = small counter_at 8 (lit≤ tt);
      serial = small serial_at 4 (lit≤ tt);
      first = length_part first_at field_size p (omega (arith, sized));
      second = length_part second_at field_size p (omega (arith, sized));
    }
  where
    small : (at n : ℕ) → at + n ≤ slot_size → from_little_endian (part at n p) < 256 ^ n
    small at n room =
        subst (λ k. from_little_endian (part at n p) < 256 ^ k) (length_part at n p (omega (arith, sized)))
        (from_below (bytes_take n (bytes_drop at b)))

length-slots_from : (n : ℕ) (s : List ℕ) → length (slots_from n s) ≡ n
unfolding slots_from
length-slots_from zero s = refl
length-slots_from (suc n) s = ap suc (length-slots_from n (drop slot_size s))

pub machine_table_of : (s : List ℕ) → Bytes s → length s ≡ table_size → Machine (table_of s)
unfolding table_of slot_at
machine_table_of s b sized =
    record {
      sixteen = length-slots_from 16 s;
      fit = λ i below.
          subst Fits (sym (slots_at 16 i s below))
          (fits-slot_from (part (slot_size * i) slot_size s) (bytes_take slot_size (bytes_drop (slot_size * i) b))
          (length_part (slot_size * i) slot_size s (omega (arith, sized))));
      last =
          subst (λ k. from_little_endian (part last_at 4 s) < 256 ^ k) (length_part last_at 4 s (omega (arith, sized)))
          (from_below (bytes_take 4 (bytes_drop last_at b)));
    }
