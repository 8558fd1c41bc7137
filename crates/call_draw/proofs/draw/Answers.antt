-- No sound table, no such generator, refused by a reason, or served: each exit cites the law of what it has found.
use Rattle.std.proofs.Common.{◌+◌, ◌∙◌, arith, rules}
use Rattle.drbg_shared.specs.Generator.{led_on}
use Rattle.table.specs.Calls.{draw}
use Rattle.table.proofs.Outcomes.{counter-fits}
use Rattle.table.proofs.Exits.{first-draw, draw-served}
use Rattle.table.proofs.OnBytes.{found, with_output, served_on, unnamed_told, refused_told}
use Rattle.call_draw.proofs.draw.Goals as goal

pub returns-in_default : goal.returns-in_default
returns-in_default c = unnamed_told _ (search rules) c.is_sound.ensures draw c.if-not-is_sound.false c.look_up.ensures c.in_default.is

pub returns-in_err-draw_reason : goal.returns-in_err-draw_reason
returns-in_err-draw_reason c =
    let f = found c.is_sound.ensures c.if-not-is_sound.false c.in-Some.ensures in
    let a = c.args in
    refused_told _ (search rules) f.sized _
    (first-draw f.named c.slot_at-s.ensures a.strength a.out.now a.additional.now c.in_err-draw_reason.ensures) _
    c.from_residual.ensures.1

pub overflow_add-counted : goal.overflow_add-counted
overflow_add-counted c =
    let f = found c.is_sound.ensures c.if-not-is_sound.false c.in-Some.ensures in
    omega (arith, counter-fits f.named c.slot_at-s.ensures)

pub returns : goal.returns
returns c =
    let f = found c.is_sound.ensures c.if-not-is_sound.false c.in-Some.ensures in
    let a = c.args in
    let d = c.drawn-blocks in
    let s = c.slot_at-s.result in
    with_output _ c.in-Some.i (record { served = led_on d.new.first d.new.second (s.counter + 1) d.result; output = d.new.out })
    c.stepped.ensures ∙
    served_on _ _ f.sized (first-draw f.named c.slot_at-s.ensures a.strength a.out.now a.additional.now c.in_ok-draw_reason.ensures)
    (draw-served f.named c.slot_at-s.ensures a.strength a.out.now a.additional.now d.ensures.is)
