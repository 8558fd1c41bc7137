-- Each number as it stands, the lowest byte first.
use Rattle.std.proofs.Common.{arith}
use Rattle.std.specs.Int.{w16, w32, w64}
use Rattle.slots.specs.Sizes.{strength_at, interval_at, counter_at, serial_at}
use Rattle.slots.specs.Slots.{slot_from}
use Rattle.slots.proofs.LittleEndian.{number_read}
use Rattle.slots.proofs.slot.slot_from.Goals as goal

pub returns : goal.returns
unfolding slot_from
returns c =
    let s = c.args.s.now in
    let strength = number_read w16 strength_at s c.from_le_bytes.ensures c.part.ensures (omega arith) in
    let interval = number_read w64 interval_at s c.from_le_bytes-2.ensures c.part-2.ensures (omega arith) in
    let counter = number_read w64 counter_at s c.from_le_bytes-3.ensures c.part-3.ensures (omega arith) in
    let serial = number_read w32 serial_at s c.from_le_bytes-4.ensures c.part-4.ensures (omega arith) in
    cc
