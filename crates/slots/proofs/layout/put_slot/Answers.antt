-- The slot's bytes in their place, all others as they were.
use Rattle.std.proofs.Common.{arith, rules}
use Rattle.slots.proofs.TableBytes.{table_put}
use Rattle.slots.proofs.layout.put_slot.Goals as goal

pub returns : goal.returns
returns c = table_put c.args.table.now (record { at = λ k. search rules }) (omega arith) c.args.i c.args.s (omega arith) c.put.ensures
