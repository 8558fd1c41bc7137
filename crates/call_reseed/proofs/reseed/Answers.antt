-- No sound table, no such generator, refused by a reason, or served: each exit cites the law of what it has found.
use Rattle.std.proofs.Common.{◌∙◌, rules}
use Rattle.table.specs.Calls.{reseed}
use Rattle.table.proofs.Exits.{first-reseed, reseed-served}
use Rattle.table.proofs.OnBytes.{found, served_on, unnamed_told, refused_told}
use Rattle.call_reseed.proofs.reseed.Goals as goal

pub returns-in_default : goal.returns-in_default
returns-in_default c = unnamed_told _ (search rules) c.is_sound.ensures reseed c.if-not-is_sound.false c.look_up.ensures c.in_default.is

pub returns-in_err-reseed_reason : goal.returns-in_err-reseed_reason
returns-in_err-reseed_reason c =
    let f = found c.is_sound.ensures c.if-not-is_sound.false c.in-Some.ensures in
    refused_told _ (search rules) f.sized _
    (first-reseed f.named c.slot_at-s.ensures c.args.entropy.now c.args.additional.now c.in_err-reseed_reason.ensures)
    _ c.from_residual.ensures.1

pub returns : goal.returns
returns c =
    let f = found c.is_sound.ensures c.if-not-is_sound.false c.in-Some.ensures in
    let e = c.args.entropy.now in
    let a = c.args.additional.now in
    c.stepped.ensures ∙
    served_on _ _ f.sized (first-reseed f.named c.slot_at-s.ensures e a c.in_ok-reseed_reason.ensures)
    (reseed-served f.named c.slot_at-s.ensures e a (c.reseeded-blocks.ensures.is c.slot_at-s.result.counter))
