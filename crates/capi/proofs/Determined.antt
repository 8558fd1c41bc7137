-- Any two results that an exported function's promise allows are the same: its result, *blocks, *value, and every byte of table and
-- output. Each equals the one that the promise names. `Post` is the promise itself, as read from the source: of lifetimes,
-- arguments, result, and the parameters at the return, of which the table is the first and *blocks and *value the last two, with a
-- draw's output before them; inquire only reads its table. Assumes nothing.
use mathlib.Core.Path.{sym, ◌∙◌}
use mathlib.Core.List.{[]}
use Prim.Native.Nat.{ℕ}
use Rattle.table.specs.OnBytes.{Same}
use Rattle.calls.proofs.Determined.{same_of}
use Rattle.capi.specs.Left.{leaves}
use Rattle.capi.proofs.purangsa_open.Reads as open-call
use Rattle.capi.proofs.purangsa_reseed.Reads as reseed
use Rattle.capi.proofs.purangsa_draw.Reads as draw
use Rattle.capi.proofs.purangsa_fresh_draw.Reads as fresh-draw
use Rattle.capi.proofs.purangsa_close.Reads as close
use Rattle.capi.proofs.purangsa_inquire.Reads as inquire

pub open_determined : (κs : _) (a : _) (r q : ℕ) (s u : _) → open-call.Post κs a r s → open-call.Post κs a q u →
    let s₈ = s.1.1.1.1.1.1.1.1 in
    let u₈ = u.1.1.1.1.1.1.1.1 in
    Same (leaves r s₈.0.now s₈.1.0.now s.0.now []) (leaves q u₈.0.now u₈.1.0.now u.0.now [])
open_determined κs a r q s u h l = same_of (h ∙ sym l)

pub reseed_determined : (κs : _) (a : _) (r q : ℕ) (s u : _) → reseed.Post κs a r s → reseed.Post κs a q u →
    let s₄ = s.1.1.1.1 in
    let u₄ = u.1.1.1.1 in
    Same (leaves r s₄.0.now s₄.1.0.now s.0.now []) (leaves q u₄.0.now u₄.1.0.now u.0.now [])
reseed_determined κs a r q s u h l = same_of (h ∙ sym l)

pub draw_determined : (κs : _) (a : _) (r q : ℕ) (s u : _) → draw.Post κs a r s → draw.Post κs a q u →
    let s₄ = s.1.1.1.1 in
    let u₄ = u.1.1.1.1 in
    Same (leaves r s₄.1.0.now s₄.1.1.0.now s.0.now s₄.0.now)
    (leaves q u₄.1.0.now u₄.1.1.0.now u.0.now u₄.0.now)
draw_determined κs a r q s u h l = same_of (h ∙ sym l)

pub fresh_draw_determined : (κs : _) (a : _) (r q : ℕ) (s u : _) → fresh-draw.Post κs a r s → fresh-draw.Post κs a q u →
    let s₅ = s.1.1.1.1.1 in
    let u₅ = u.1.1.1.1.1 in
    Same (leaves r s₅.1.0.now s₅.1.1.0.now s.0.now s₅.0.now)
    (leaves q u₅.1.0.now u₅.1.1.0.now u.0.now u₅.0.now)
fresh_draw_determined κs a r q s u h l = same_of (h ∙ sym l)

pub close_determined : (κs : _) (a : _) (r q : ℕ) (s u : _) → close.Post κs a r s → close.Post κs a q u →
    let s₂ = s.1.1 in
    let u₂ = u.1.1 in
    Same (leaves r s₂.0.now s₂.1.0.now s.0.now []) (leaves q u₂.0.now u₂.1.0.now u.0.now [])
close_determined κs a r q s u h l = same_of (h ∙ sym l)

pub inquire_determined : (κs : _) (a : _) (r q : ℕ) (s u : _) → inquire.Post κs a r s → inquire.Post κs a q u →
    let s₂ = s.1.1 in
    let u₂ = u.1.1 in
    Same (leaves r s₂.0.now s₂.1.0.now a.0.now []) (leaves q u₂.0.now u₂.1.0.now a.0.now [])
inquire_determined κs a r q s u h l = same_of (h ∙ sym l)
