-- No sound table, refused by a reason, or served: each exit cites the law of what it has found.
use Rattle.std.proofs.Common.{◌≡◌, ℕ, ◌⊎◌, inl, inr, Option, Some, None, IsSome}
use Rattle.std.proofs.Common.{unwrap_or, Fits, w8, refl, sym, ap, ◌∙◌, arith, rules}
use Rattle.reasons.proofs.Allowed.{open_found}
use Rattle.table.specs.Answers.{installed}
use Rattle.table.proofs.Exits.{first_open, open_served}
use Rattle.table.proofs.OnBytes.{whole, served_on, refused_told}
use Rattle.call_open.proofs.open.Goals as goal

some_free : (slot : Option ℕ) → (unwrap_or slot 16 ≡ 16 → ⊥) → IsSome slot
some_free None free = absurd (free refl)
some_free (Some i) free = refl

kind_fits : {mechanism : ℕ} → (mechanism ≡ 1) ⊎ (mechanism ≡ 2) → Fits w8 mechanism
kind_fits (inl one) = omega (arith, one)
kind_fits (inr two) = omega (arith, two)

pub returns-in_err-open_reason : goal.returns-in_err-open_reason
returns-in_err-open_reason c =
    let w = whole c.is_sound.ensures c.if-not-is_sound.false in
    let a = c.args in
    refused_told _ (search rules) w.sized _
    (first_open _ c.lowest_free-slot.ensures.lowest c.last_serial-last.ensures a.mechanism a.strength a.interval a.fresh a.entropy.now
    a.nonce.now a.personalization.now w.sound c.in_err-open_reason.ensures) _
    c.from_residual.ensures.1

pub unwrap-i-requires : goal.unwrap-i-requires
unwrap-i-requires c =
    some_free _ (open_found c.in_ok-open_reason.ensures).slot_free

pub overflow_cast-kind : goal.overflow_cast-kind
overflow_cast-kind c =
    kind_fits (open_found c.in_ok-open_reason.ensures).mechanism_so

pub overflow_add-serial : goal.overflow_add-serial
overflow_add-serial c =
    omega (arith, (open_found c.in_ok-open_reason.ensures).serials_left)

pub opened-blocks-requires : goal.opened-blocks-requires
opened-blocks-requires c =
    let m = open_found c.in_ok-open_reason.ensures in
    (m.entropy_most, m.nonce_most, m.personalization_most)

pub returns : goal.returns
unfolding installed
returns c =
    let w = whole c.is_sound.ensures c.if-not-is_sound.false in
    let a = c.args in
    let at = sym (ap (λ s. unwrap_or s 16) c.unwrap-i.ensures) ∙ c.lowest_free-slot.ensures.lowest in
    rw (c.handle_of.ensures, c.put_new_slot.ensures, c.new_slot-s.ensures, c.rounded.ensures)
    (served_on _ _ w.sized
    (first_open _ c.lowest_free-slot.ensures.lowest c.last_serial-last.ensures a.mechanism a.strength a.interval a.fresh a.entropy.now
    a.nonce.now a.personalization.now w.sound c.in_ok-open_reason.ensures)
    (open_served _ at c.last_serial-last.ensures a.mechanism a.strength a.interval a.fresh a.entropy.now a.nonce.now a.personalization.now
    c.opened-blocks.ensures.is))
