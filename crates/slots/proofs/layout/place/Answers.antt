-- The slot's bytes where they stand.
use Rattle.std.proofs.Common.{arith}
use Rattle.slots.proofs.TableBytes.{slot_read}
use Rattle.slots.proofs.layout.place.Goals as goal

pub returns-clause-slot : goal.returns-clause-slot
returns-clause-slot c = slot_read c.args.table.now c.args.i (omega arith)
