-- The last serial where it stands.
use Rattle.std.proofs.Common.{sym, rules}
use Rattle.slots.specs.Bytes.{table_of}
use Rattle.slots.proofs.TableBytes.{bytes-table_of, last_put}
use Rattle.slots.proofs.layout.put_last_serial.Goals as goal

pub returns : goal.returns
returns c =
    let s = c.args.table.now in
    last_put (table_of s) c.args.last (sym (bytes-table_of s (record { at = λ i. search rules }) c.requires)) c.requires
    (search rules) c.copy.ensures
