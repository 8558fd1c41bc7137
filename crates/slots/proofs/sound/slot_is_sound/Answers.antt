-- A slot of mechanism 0 is sound only if it is free, and any other only if it is used.
use Rattle.std.proofs.Common.{◌≡◌, ℕ, Bool, List, length, ne_eqb, arith, rules, tests}
use Rattle.slots.specs.Sound.{all_zero, free_sound, used_sound, sound_slot}
use Rattle.slots.specs.Slots.{slot_from}
use Rattle.slots.specs.Sizes.{field_size, slot_size, first_at, second_at}
use Rattle.slots.proofs.LittleEndian.{length_part}
use Rattle.slots.proofs.ZeroBytes.{blank}
use Rattle.slots.proofs.sound.slot_is_sound.Goals as goal

free_only : {zero : Bool} (last : ℕ) (s : List ℕ) → zero ≡ all_zero s → length s ≡ slot_size → (slot_from s).mechanism ≡ 0
    → zero ≡ sound_slot last (slot_from s)
unfolding used_sound sound_slot
free_only last s is sized free = grind (arith, tests, is, blank s sized, free)

pub returns-then-slot-eq0 : goal.returns-then-slot-eq0
returns-then-slot-eq0 c =
    free_only c.args.last c.args.s.now (search (rules, tests)) c.requires (rw c.slot_from-slot.ensures at c.if-slot-eq0.true)

pub returns : goal.returns
unfolding free_sound used_sound sound_slot slot_from
returns c =
    let s = c.args.s.now in
    let is = c.slot_from-slot.ensures in
    let unfree = rw is at (ne_eqb c.slot_from-slot.result.mechanism 0 c.if-slot-eq0.false) in
    let first = length_part first_at field_size s (omega arith) in
    let second = length_part second_at field_size s (omega arith) in
    rw (c.has_used_numbers.ensures, c.rest_is_zero.ensures, c.rest_is_zero-2.ensures, is, unfree, first, second) (grind (arith, tests))
