-- The slot, then the last serial.
use Rattle.std.proofs.Common.{arith, rules}
use Rattle.slots.specs.Layout.{with_slot}
use Rattle.slots.specs.Bytes.{table_of}
use Rattle.slots.proofs.TableBytes.{last_put}
use Rattle.slots.proofs.layout.put_new_slot.Goals as goal

pub returns : goal.returns
returns c =
    last_put (with_slot (table_of c.args.table.now) c.args.i c.args.s) c.args.serial c.put_slot.ensures (omega arith)
    (search rules) c.copy.ensures
