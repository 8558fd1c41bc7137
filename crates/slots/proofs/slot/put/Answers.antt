-- Field after field, each behind the one before.
use Rattle.std.proofs.Common.{[], refl, arith, rules}
use Rattle.std.specs.Int.{w16, w32, w64}
use Rattle.slots.specs.Sizes.{field_size, slot_size}
use Rattle.slots.specs.Slots.{slot_bytes}
use Rattle.slots.proofs.LittleEndian.{Front, front_byte, front_number, front_more, front_all}
use Rattle.slots.proofs.slot.put.Goals as goal

pub returns : goal.returns
unfolding slot_bytes
returns c =
    let s = c.args.s in
    let f0 : Front slot_size 0 [] c.args.to.now = record { is = refl; whole = c.requires } in
    let f1 = front_byte s.mechanism f0 (omega arith) in
    let f2 = front_number w16 s.strength f1 (omega arith) (search rules) c.copy.ensures in
    let f3 = front_number w64 s.interval f2 (omega arith) (search rules) c.copy-2.ensures in
    let f4 = front_number w64 s.counter f3 (omega arith) (search rules) c.copy-3.ensures in
    let f5 = front_byte s.fresh f4 (omega arith) in
    let f6 = front_number w32 s.serial f5 (omega arith) (search rules) c.copy-4.ensures in
    let f7 = front_more field_size s.first f6 (omega arith) (search rules) c.copy-5.ensures in
    front_all (front_more field_size s.second f7 (omega arith) (search rules) c.copy-6.ensures)
