-- Each kind's call is made with the record's own fields.
use Rattle.std.proofs.Common.{arith, refl, subst}
use Rattle.book.specs.Records.{Fits}
use Rattle.book.specs.Values.{meaning}
use Rattle.runner.proofs.Records.{answered_as, told_all, answers_open, answers_draw, answers_fresh_draw}
use Rattle.runner.proofs.answer.Goals as goal

pub returns-in-Open : goal.returns-in-Open
returns-in-Open c = answered_as c.in-Open.is (answers_open _ _ _ _ _ _ _ _ _ _ _ c.open.ensures)

pub returns-in-Reseed : goal.returns-in-Reseed
returns-in-Reseed c = answered_as c.in-Reseed.is (told_all _ _ _ _ _ refl c.reseed.ensures)

pub returns-in-Draw : goal.returns-in-Draw
returns-in-Draw c =
    let fits = subst (λ r. Fits (meaning r)) c.in-Draw.is c.requires in
    answered_as c.in-Draw.is (answers_draw _ _ _ _ _ _ c.args.out.now _ fits.2 (omega arith) c.draw.auto.out _ c.draw.ensures)

pub returns-in-FreshDraw : goal.returns-in-FreshDraw
returns-in-FreshDraw c =
    let fits = subst (λ r. Fits (meaning r)) c.in-FreshDraw.is c.requires in
    answered_as c.in-FreshDraw.is
    (answers_fresh_draw _ _ _ _ _ _ c.args.out.now _ fits.2 (omega arith) c.fresh_draw.auto.out _ _ c.fresh_draw.ensures)

pub returns-in-Close : goal.returns-in-Close
returns-in-Close c = answered_as c.in-Close.is (told_all _ _ _ _ _ refl c.close.ensures)

pub returns-in-Inquire : goal.returns-in-Inquire
returns-in-Inquire c = answered_as c.in-Inquire.is (told_all _ _ _ _ _ refl c.inquire.ensures)
