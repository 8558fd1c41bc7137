-- Demand 2, between two reseeds: after a served opening, reseed or fresh draw, and until the next served reseed, no more draws are served
-- under the handle than its interval, since each leaves all draws of the interval left; a fresh draw's own is one of them.
-- Assumes nothing.
use mathlib.Core.Path.{◌≡◌, sym, ap, subst, ◌∙◌}
use mathlib.Core.Bool.{Bool, true, not}
use mathlib.Core.Logic.{◌⊎◌, inl, inr}
use mathlib.Core.List.{List}
use Prim.Native.Nat.{ℕ, ◌+◌, ◌-◌, ◌/◌, ◌≤◌}
use native.Mathlib.Omega.{arith}
use lib.Dec.{eqb}
use Rattle.standard.specs.State.{State}
use Rattle.slots.specs.Layout.{last_serial, fresh_table, Table}
use Rattle.slots.specs.Handle.{in_use, slot_of, names, lowest_free}
use Rattle.slots.specs.declared.slot.Slot.{Slot}
use Rattle.slots.proofs.Handles.{named-is, names-used, names-serial, names_by, sound-named, lowest_most, handle-serial}
use Rattle.table.specs.Answers.{Answer}
use Rattle.reasons.proofs.Allowed.{may_open, may_reseed, may_draw-fresh}
use Rattle.table.specs.Calls.{Call, opens, reseeds, fresh_draws}
use Rattle.demands.specs.Calls.{answer, number, after, after_all}
use Rattle.demands.specs.Draws.{draws_served, NoReseed}
use Rattle.demands.specs.Outcomes.{Follows}
use Rattle.demands.proofs.Answered.{served-none}
use Rattle.demands.proofs.Moves.{below_16, sound-after, sound_reached}
use Rattle.demands.proofs.Draws.{draws_most, at_most_interval}
use Rattle.demands.proofs.Standard.{reseed_standard, fresh_draw_standard, open_standard, reseed-left, fresh_draw-left}

used_there : {m : ℕ} → (m ≡ 1) ⊎ (m ≡ 2) → not (eqb m 0) ≡ true
used_there (inl e) = ap (λ m. not (eqb m 0)) e
used_there (inr e) = ap (λ m. not (eqb m 0)) e

-- a step leaves its handle named
step-named : {t : Table} {h : ℕ} {a : Answer} {st : State} {blocks : ℕ} → Follows t h a st blocks → names t h ≡ true
    → names a.table h ≡ true
step-named {t} {h} {a} f is =
    names_by a.table h (ap in_use f.slot ∙ names-used t h is) (ap (λ (s : Slot). s.serial) f.slot ∙ names-serial t h is)

one_more : {n i : ℕ} → n ≤ i - 1 → 1 ≤ i → 1 + n ≤ i
one_more h l = omega arith

module _ (t : Table) (h : ℕ) (ds : List Call) where
  pub after-reseed : (entropy additional : List ℕ) →
      let c = reseeds h entropy additional in
      number t c ≡ 0 → NoReseed h (after t c) ds → draws_served h (after t c) ds ≤ (slot_of t h).interval
  after-reseed entropy additional so quiet =
      let c = reseeds h entropy additional in
      let may = may_reseed (served-none t c so) in
      subst (λ n. draws_served h (after t c) ds ≤ n) (reseed-left t h entropy additional so)
      (draws_most h (after t c) ds (sound-after t c may.sound_so)
      (step-named (reseed_standard t h entropy additional so) (sym (named-is t h) ∙ may.named_so)) quiet)

  pub after-fresh_draw : (strength : ℕ) (out entropy additional : List ℕ) →
      let c = fresh_draws h strength out entropy additional in
      number t c ≡ 0 → NoReseed h (after t c) ds → 1 + draws_served h (after t c) ds ≤ (slot_of t h).interval
  after-fresh_draw strength out entropy additional so quiet =
      let c = fresh_draws h strength out entropy additional in
      let may = may_draw-fresh (served-none t c so) in
      let is : names t h ≡ true = sym (named-is t h) ∙ may.named_so in
      one_more
      (subst (λ n. draws_served h (after t c) ds ≤ n) (fresh_draw-left t h strength out entropy additional so)
      (draws_most h (after t c) ds (sound-after t c may.sound_so)
      (step-named (fresh_draw_standard t h strength out entropy additional so).0 is) quiet))
      (sound-named t h may.sound_so is).interval-some

module _ (t : Table) (mechanism strength interval : ℕ) (fresh : Bool) (entropy nonce personalization : List ℕ) where
  -- the handle given out names the new generator
  pub opened-named :
      let c = opens mechanism strength interval fresh entropy nonce personalization in
      number t c ≡ 0 → names (after t c) (answer t c).value ≡ true
  opened-named so =
      let c = opens mechanism strength interval fresh entropy nonce personalization in
      let may = may_open (served-none t c so) in
      let begins = open_standard t mechanism strength interval fresh entropy nonce personalization so in
      let room = below_16 (lowest_most t 0 16) may.slot_free in
      names_by (after t c) (answer t c).value (ap in_use begins.slot ∙ used_there may.mechanism_so)
      (ap (λ (s : Slot). s.serial) begins.slot
      ∙ sym (ap (λ n. n / 16) begins.handle ∙ handle-serial (last_serial t + 1) (lowest_free t 0 16) room))

  pub after-opening : (ds : List Call) →
      let c = opens mechanism strength interval fresh entropy nonce personalization in
      let h = (answer t c).value in
      number t c ≡ 0 → NoReseed h (after t c) ds → draws_served h (after t c) ds ≤ interval
  after-opening ds so quiet =
      let c = opens mechanism strength interval fresh entropy nonce personalization in
      let h = (answer t c).value in
      let may = may_open (served-none t c so) in
      subst (λ n. draws_served h (after t c) ds ≤ n)
      (open_standard t mechanism strength interval fresh entropy nonce personalization so).all_left
      (draws_most h (after t c) ds (sound-after t c may.sound_so) (opened-named so) quiet)

-- anywhere in a sequence from the fresh table
pub interval_from_fresh : (h : ℕ) (cs ds : List Call) →
    let t = after_all fresh_table cs in
    names t h ≡ true → NoReseed h t ds → draws_served h t ds ≤ (slot_of t h).interval
interval_from_fresh h cs ds = at_most_interval h (after_all fresh_table cs) ds (sound_reached cs)
