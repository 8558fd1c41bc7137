-- No sound table, no such generator, or served: each exit cites the law of what it has found.
use Rattle.std.proofs.Common.{rules}
use Rattle.table.specs.Calls.{close}
use Rattle.table.proofs.Exits.{first-close, close-served}
use Rattle.table.proofs.OnBytes.{found, served_on, unnamed_told}
use Rattle.call_close.proofs.close.Goals as goal

pub returns-in_default : goal.returns-in_default
returns-in_default c = unnamed_told _ (search rules) c.is_sound.ensures close c.if-not-is_sound.false c.look_up.ensures c.in_default.is

pub returns : goal.returns
returns c =
    let f = found c.is_sound.ensures c.if-not-is_sound.false c.in-Some.ensures in
    rw (c.put_slot.ensures, c.free_slot.ensures) (served_on _ _ f.sized (first-close f.named) (close-served f.named))
