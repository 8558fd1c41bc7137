-- No sound table, no such generator, or served: each exit cites the law of what it has found. A sound slot's interval is small, and its
-- counter is not past it by more than 1.
use Rattle.std.proofs.Common.{[], ◌+◌, ◌-◌, sym, ap, ◌∙◌, arith, rules}
use Rattle.slots.proofs.TableBytes.{bytes-table_of}
use Rattle.table.specs.Calls.{inquire}
use Rattle.table.specs.OnBytes.{leaving, told_served}
use Rattle.table.proofs.Outcomes.{used-here}
use Rattle.table.proofs.Exits.{first-inquire, inquire-served}
use Rattle.table.proofs.OnBytes.{bytes-known, found, served_on, unnamed_told}
use Rattle.call_inquire.proofs.inquire.Goals as goal

pub returns-in_default : goal.returns-in_default
returns-in_default c = unnamed_told _ (search rules) c.is_sound.ensures inquire c.if-not-is_sound.false c.look_up.ensures c.in_default.is

pub overflow_add-result : goal.overflow_add-result
overflow_add-result c =
    let f = found c.is_sound.ensures c.if-not-is_sound.false c.in-Some.ensures in
    let u = used-here f.named c.slot_at-s.ensures in
    omega arith

pub overflow_sub-result : goal.overflow_sub-result
overflow_sub-result c =
    let f = found c.is_sound.ensures c.if-not-is_sound.false c.in-Some.ensures in
    let u = used-here f.named c.slot_at-s.ensures in
    omega arith

pub returns : goal.returns
returns c =
    let f = found c.is_sound.ensures c.if-not-is_sound.false c.in-Some.ensures in
    let s = c.slot_at-s.result in
    ap (λ t. leaving (told_served 0 (s.interval + 1 - s.counter)) t [])
    (sym (bytes-table_of c.args.table.now (bytes-known (search rules)) f.sized)) ∙
    served_on _ _ f.sized (first-inquire f.named) (inquire-served f.named c.slot_at-s.ensures)
