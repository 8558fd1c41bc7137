-- Any two results that a call's promise allows are the same: each equals the one that the promise names. `Post` is the promise itself,
-- as read from the source: of lifetimes, arguments, result, and the parameters at the return, of which the table is the first and
-- the output of a draw the fourth; inquire only reads its table. Assumes nothing.
use mathlib.Core.Path.{◌≡◌, sym, ap, ◌∙◌}
use mathlib.Core.List.{[]}
use Rattle.std.specs.Prelude.{Result}
use Rattle.reasons.specs.declared.Reason.{Reason}
use Rattle.table.specs.OnBytes.{Done, leaving, told_of, Same}
use Rattle.table.specs.declared.answers.Served.{Served}
use Rattle.call_open.proofs.open.Reads as open-call
use Rattle.call_reseed.proofs.reseed.Reads as reseed
use Rattle.call_draw.proofs.draw.Reads as draw
use Rattle.call_fresh_draw.proofs.fresh_draw.Reads as fresh-draw
use Rattle.call_close.proofs.close.Reads as close
use Rattle.call_inquire.proofs.inquire.Reads as inquire

pub same_of : {d e : Done} → d ≡ e → Same d e
same_of h =
    record {
      number = ap (λ x. x.told.number) h;
      blocks = ap (λ x. x.told.blocks) h;
      value = ap (λ x. x.told.value) h;
      table = ap (λ x. x.table) h;
      output = ap (λ x. x.output) h;
    }

pub open_determined : (κs : _) (a : _) (r q : Result Served Reason) (s u : _) → open-call.Post κs a r s → open-call.Post κs a q u
    → Same (leaving (told_of r) s.0.now []) (leaving (told_of q) u.0.now [])
open_determined κs a r q s u h l = same_of (h ∙ sym l)

pub reseed_determined : (κs : _) (a : _) (r q : Result Served Reason) (s u : _) → reseed.Post κs a r s → reseed.Post κs a q u
    → Same (leaving (told_of r) s.0.now []) (leaving (told_of q) u.0.now [])
reseed_determined κs a r q s u h l = same_of (h ∙ sym l)

pub draw_determined : (κs : _) (a : _) (r q : Result Served Reason) (s u : _) → draw.Post κs a r s → draw.Post κs a q u
    → Same (leaving (told_of r) s.0.now s.1.1.1.1.0.now) (leaving (told_of q) u.0.now u.1.1.1.1.0.now)
draw_determined κs a r q s u h l = same_of (h ∙ sym l)

pub fresh_draw_determined : (κs : _) (a : _) (r q : Result Served Reason) (s u : _) → fresh-draw.Post κs a r s → fresh-draw.Post κs a q u
    → Same (leaving (told_of r) s.0.now s.1.1.1.1.1.0.now) (leaving (told_of q) u.0.now u.1.1.1.1.1.0.now)
fresh_draw_determined κs a r q s u h l = same_of (h ∙ sym l)

pub close_determined : (κs : _) (a : _) (r q : Result Served Reason) (s u : _) → close.Post κs a r s → close.Post κs a q u
    → Same (leaving (told_of r) s.0.now []) (leaving (told_of q) u.0.now [])
close_determined κs a r q s u h l = same_of (h ∙ sym l)

pub inquire_determined : (κs : _) (a : _) (r q : Result Served Reason) (s u : _) → inquire.Post κs a r s → inquire.Post κs a q u
    → Same (leaving (told_of r) a.0.now []) (leaving (told_of q) a.0.now [])
inquire_determined κs a r q s u h l = same_of (h ∙ sym l)
