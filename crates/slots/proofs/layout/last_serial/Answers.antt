-- The last four bytes.
use Rattle.std.proofs.Common.{arith}
use Rattle.std.specs.Int.{w32}
use Rattle.slots.specs.Sizes.{last_at}
use Rattle.slots.specs.Layout.{last_serial}
use Rattle.slots.specs.Bytes.{table_of}
use Rattle.slots.proofs.LittleEndian.{number_read}
use Rattle.slots.proofs.layout.last_serial.Goals as goal

pub returns : goal.returns
unfolding last_serial table_of
returns c = number_read w32 last_at c.args.table.now c.from_le_bytes.ensures c.part.ensures (omega arith)
