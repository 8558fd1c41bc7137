-- No sound table, no such generator, refused by a reason, or served: each exit cites the law of what it has found.
use Rattle.std.proofs.Common.{◌∙◌, rules}
use Rattle.drbg_shared.specs.Generator.{led_on}
use Rattle.table.specs.Calls.{fresh-draw}
use Rattle.table.proofs.Exits.{first-fresh_draw, fresh_draw-served}
use Rattle.table.proofs.OnBytes.{found, with_output, served_on, unnamed_told, refused_told}
use Rattle.call_fresh_draw.proofs.fresh_draw.Goals as goal

pub returns-in_default : goal.returns-in_default
returns-in_default c =
    unnamed_told _ (search rules) c.is_sound.ensures fresh-draw c.if-not-is_sound.false c.look_up.ensures c.in_default.is

pub returns-in_err-fresh_draw_reason : goal.returns-in_err-fresh_draw_reason
returns-in_err-fresh_draw_reason c =
    let f = found c.is_sound.ensures c.if-not-is_sound.false c.in-Some.ensures in
    let a = c.args in
    refused_told _ (search rules) f.sized _
    (first-fresh_draw f.named c.slot_at-s.ensures a.strength a.out.now a.entropy.now a.additional.now c.in_err-fresh_draw_reason.ensures) _
    c.from_residual.ensures.1

pub returns : goal.returns
returns c =
    let f = found c.is_sound.ensures c.if-not-is_sound.false c.in-Some.ensures in
    let a = c.args in
    let d = c.fresh_drawn-blocks in
    with_output _ c.in-Some.i (record { served = led_on d.new.first d.new.second 2 d.result; output = d.new.out }) c.stepped.ensures ∙
    served_on _ _ f.sized
    (first-fresh_draw f.named c.slot_at-s.ensures a.strength a.out.now a.entropy.now a.additional.now c.in_ok-fresh_draw_reason.ensures)
    (fresh_draw-served f.named c.slot_at-s.ensures a.strength a.out.now a.entropy.now a.additional.now
    (d.ensures.is c.slot_at-s.result.counter))
