-- Demand 2, the standard: what a served opening, reseed, draw and fresh draw leave, give out and count is SP 800-90A's function at the
-- state that stands under the handle: services are defined by it, and a state is read back from its slot as it was put in. Assumes nothing.
use mathlib.Core.Path.{◌≡◌, refl, sym, ap, subst, ◌∙◌}
use mathlib.Core.Bool.{Bool, true}
use mathlib.Core.List.{List}
use Prim.Native.Nat.{ℕ, ◌+◌, ◌-◌, ◌*◌, ◌%◌, ◌≤◌}
use native.Mathlib.Omega.{arith}
use lib.Dec.{lit<}
use lib.ListN.{length}
use Rattle.standard.specs.State.{State}
use Rattle.standard.specs.Sha256.{sha256}
use Rattle.standard.specs.Functions.{Mechanism, opening, reseeding, draw, fresh_draw}
use Rattle.standard.specs.Lengths.{Sized, state_bytes}
use Rattle.standard.proofs.Lengths.{sized_opening, sized_reseeding, sized_draw, sized_fresh_draw, counter-opening, counter-reseeding}
use Rattle.standard.proofs.Lengths.{counter-fresh_draw}
use Rattle.drbg.specs.Mechanism.{mechanism_of}
use Rattle.drbg_shared.specs.Generator.{standing, served, filled}
use Rattle.drbg_shared.proofs.Standing.{state_of-standing}
use Rattle.slots.specs.Layout.{slot_at, with_slot, last_serial, Table}
use Rattle.slots.specs.Sound.{sound}
use Rattle.slots.specs.Handle.{handle_of, slot_of, look_up, named, lowest_free}
use Rattle.slots.specs.declared.slot.Slot.{Slot}
use Rattle.slots.proofs.Slots.{slot_at-same, slot_at-with_last_serial, last_serial-with_last_serial}
use Rattle.slots.proofs.Soundness.{sound_has}
use Rattle.slots.proofs.Handles.{named-is, sound-named, slot_below, lowest_most, handle-slot}
use Rattle.reasons.specs.Checks.{rounded}
use Rattle.table.specs.Answers.{Reply, stepped, installed, with_generator, new_slot, Answer}
use Rattle.table.specs.Served.{mechanism_in, state_in}
use Rattle.reasons.proofs.Decisions.{refusing, serving}
use Rattle.table.proofs.Standing.{sized_in}
use Rattle.reasons.proofs.Allowed.{may_open, may_reseed, may_draw, may_draw-fresh}
use Rattle.reasons.proofs.Strengths.{entropy-bits, nonce-bits}
use Rattle.table.specs.Calls.{Call, opens, reseeds, draws, fresh_draws, reply}
use Rattle.demands.specs.Calls.{answer, number, after}
use Rattle.demands.specs.Calls as Calls
use Rattle.demands.specs.Draws.{left}
use Rattle.demands.specs.Outcomes.{Follows, Begins}
use Rattle.demands.proofs.Outcome.{Outcome, outcome}
use Rattle.demands.proofs.Answered.{served-is, served-none}
use Rattle.demands.proofs.Moves.{below_16}

module _ (t : Table) (h : ℕ) (whole : sound t ≡ true) where
  follows : (a : Answer) (st : State) (blocks : ℕ) → Sized (state_bytes sha256 (mechanism_in (slot_of t h))) st
      → a.table ≡ with_slot t (h % 16) (with_generator (slot_of t h) (standing st)) → a.blocks ≡ blocks → Follows t h a st blocks
  follows a st blocks sized table_is counted =
      let slot_is : slot_of a.table h ≡ with_generator (slot_of t h) (standing st) =
      ap (λ (u : Table). slot_of u h) table_is ∙ slot_at-same t (h % 16) _ (sound_has t whole (h % 16) (slot_below t h)) in
      record {
        slot = slot_is;
        state = ap state_in slot_is ∙ state_of-standing (mechanism_in (slot_of t h)) st sized;
        counted = counted;
      }

module _ (t : Table) (h : ℕ) where
  -- the state under a handle that names a generator has its lengths
  pub sized_by : sound t ≡ true → named (look_up t h) ≡ true
      → Sized (state_bytes sha256 (mechanism_in (slot_of t h))) (state_in (slot_of t h))
  sized_by whole found = sized_in (last_serial t) (slot_of t h) (sound-named t h whole (sym (named-is t h) ∙ found))

  -- a served reseed is the standard's
  pub reseed_standard : (entropy additional : List ℕ) → number t (reseeds h entropy additional) ≡ 0 →
      let m = reseeding sha256 (mechanism_in (slot_of t h)) (state_in (slot_of t h)) entropy additional in
      Follows t h (answer t (reseeds h entropy additional)) m.value m.blocks
  unfolding stepped served
  reseed_standard entropy additional so =
      let c = reseeds h entropy additional in
      let is = served-is t c so in
      follows t h (may_reseed (served-none t c so)).sound_so (answer t c) _ _
      (sized_reseeding sha256 (lit< tt) (mechanism_in (slot_of t h)) (state_in (slot_of t h)) entropy additional)
      (ap (λ (r : Reply). r.answer.table) is) (ap (λ (r : Reply). r.answer.blocks) is)

  -- a served draw is the standard's, and gives its bytes
  pub draw_standard : (strength : ℕ) (out additional : List ℕ) → number t (draws h strength out additional) ≡ 0 →
      let m = draw sha256 (mechanism_in (slot_of t h)) (state_in (slot_of t h)) (length out) additional in
      Follows t h (answer t (draws h strength out additional)) m.value.state m.blocks
      × ((reply t (draws h strength out additional)).output ≡ m.value.bytes)
  unfolding stepped filled
  draw_standard strength out additional so =
      let c = draws h strength out additional in
      let is = served-is t c so in
      let may = may_draw (served-none t c so) in (
        follows t h may.sound_so (answer t c) _ _
            (sized_draw sha256 (mechanism_in (slot_of t h)) (state_in (slot_of t h)) (length out) additional
            (sized_by may.sound_so may.named_so))
            (ap (λ (r : Reply). r.answer.table) is) (ap (λ (r : Reply). r.answer.blocks) is),
        ap (λ (r : Reply). r.output) is,
      )

  -- and so is a served fresh draw
  pub fresh_draw_standard : (strength : ℕ) (out entropy additional : List ℕ)
      → number t (fresh_draws h strength out entropy additional) ≡ 0 →
      let m = fresh_draw sha256 (mechanism_in (slot_of t h)) (state_in (slot_of t h)) (length out) entropy additional in
      Follows t h (answer t (fresh_draws h strength out entropy additional)) m.value.state m.blocks
      × ((reply t (fresh_draws h strength out entropy additional)).output ≡ m.value.bytes)
  unfolding stepped filled
  fresh_draw_standard strength out entropy additional so =
      let c = fresh_draws h strength out entropy additional in
      let is = served-is t c so in
      let may = may_draw-fresh (served-none t c so) in (
        follows t h may.sound_so (answer t c) _ _
            (sized_fresh_draw sha256 (lit< tt) (mechanism_in (slot_of t h)) (state_in (slot_of t h)) (length out) entropy additional)
            (ap (λ (r : Reply). r.answer.table) is) (ap (λ (r : Reply). r.answer.blocks) is),
        ap (λ (r : Reply). r.output) is,
      )

  -- after a reseed all draws of the interval are left; after a fresh draw, which is one of them, one fewer
  pub reseed-left : (entropy additional : List ℕ) → number t (reseeds h entropy additional) ≡ 0
      → left h (after t (reseeds h entropy additional)) ≡ (slot_of t h).interval
  unfolding standing
  reseed-left entropy additional so =
      let s = slot_of t h in
      ap (λ (s : Slot). s.interval + 1 - s.counter) (reseed_standard entropy additional so).slot
      ∙ ap (λ n. s.interval + 1 - n) (counter-reseeding sha256 (mechanism_in s) (state_in s) entropy additional) ∙ omega arith

  pub fresh_draw-left : (strength : ℕ) (out entropy additional : List ℕ) → number t (fresh_draws h strength out entropy additional) ≡ 0
      → left h (after t (fresh_draws h strength out entropy additional)) ≡ (slot_of t h).interval - 1
  unfolding standing
  fresh_draw-left strength out entropy additional so =
      let s = slot_of t h in
      ap (λ (s : Slot). s.interval + 1 - s.counter) (fresh_draw_standard strength out entropy additional so).0.slot
      ∙ ap (λ n. s.interval + 1 - n) (counter-fresh_draw sha256 (mechanism_in s) (state_in s) (length out) entropy additional) ∙ omega arith

left_new : (interval : ℕ) (m : Mechanism) (e n p : List ℕ) → interval + 1 - (standing (opening sha256 m e n p).value).counter ≡ interval
unfolding standing
left_new interval m e n p = ap (λ k. interval + 1 - k) (counter-opening sha256 m e n p) ∙ omega arith

module _ (t : Table) (mechanism strength interval : ℕ) (fresh : Bool) (entropy nonce personalization : List ℕ) where
  -- a served opening is the standard's
  pub open_standard :
      let c = opens mechanism strength interval fresh entropy nonce personalization in
      let m = opening sha256 (mechanism_of mechanism) entropy nonce personalization in
      let new = new_slot mechanism (rounded strength) interval fresh (last_serial t + 1) (standing m.value) in
      number t c ≡ 0 → Begins t (answer t c) new m.value m.blocks
  unfolding installed served
  open_standard so =
      let c = opens mechanism strength interval fresh entropy nonce personalization in
      let m = opening sha256 (mechanism_of mechanism) entropy nonce personalization in
      let is = served-is t c so in
      let i : ℕ = lowest_free t 0 16 in
      let may = may_open (served-none t c so) in
      let room = below_16 (lowest_most t 0 16) may.slot_free in
      let new = new_slot mechanism (rounded strength) interval fresh (last_serial t + 1) (standing m.value) in
      let slot_is : slot_of (answer t c).table (answer t c).value ≡ new =
      ap (λ (r : Reply). slot_of r.answer.table r.answer.value) is
      ∙ slot_at-with_last_serial (with_slot t i new) (last_serial t + 1) (handle_of (last_serial t + 1) i % 16)
      ∙ ap (slot_at (with_slot t i new)) (handle-slot (last_serial t + 1) i room)
      ∙ slot_at-same t i new (sound_has t may.sound_so i room) in
      record {
        handle = ap (λ (r : Reply). r.answer.value) is;
        slot = slot_is;
        state =
            ap state_in slot_is
            ∙ state_of-standing (mechanism_of mechanism) m.value
            (sized_opening sha256 (lit< tt) (mechanism_of mechanism) entropy nonce personalization);
        next_serial =
            ap (λ (r : Reply). last_serial r.answer.table) is ∙ last_serial-with_last_serial (with_slot t i new) (last_serial t + 1);
        counted = ap (λ (r : Reply). r.answer.blocks) is;
        all_left =
            ap (λ (s : Slot). s.interval + 1 - s.counter) slot_is
            ∙ left_new interval (mechanism_of mechanism) entropy nonce personalization;
      }

  -- SP 800-90A §8.6.3, §8.6.7: a served opening brings entropy of the generator's strength in bits, and a nonce of half as many
  pub open_strings :
      let c = opens mechanism strength interval fresh entropy nonce personalization in
      let s = slot_of (after t c) (answer t c).value in
      number t c ≡ 0 → (s.strength ≤ 8 * length entropy) × (s.strength ≤ 2 * (8 * length nonce))
  open_strings so =
      let may = may_open (served-none t (opens mechanism strength interval fresh entropy nonce personalization) so) in
      let own = ap (λ (s : Slot). s.strength) (open_standard so).slot in (
        subst (λ k. k ≤ 8 * length entropy) (sym own) (entropy-bits strength (length entropy) may.entropy_least),
        subst (λ k. k ≤ 2 * (8 * length nonce)) (sym own) (nonce-bits strength (length nonce) may.nonce_least),
      )

-- open's value is the handle and inquire's the draws left; any other call's is 0
pub no_value : (t : Table) (c : Call) → Calls.NoValue c → (answer t c).value ≡ 0
unfolding stepped
no_value t c kind = go kind (outcome t c)
  where
    go : {c : Call} → Calls.NoValue c → {r : Reply} → Outcome t c r → r.answer.value ≡ 0
    go kind (refusing n f) = refl
    go Calls.reseeding (serving none) = refl
    go Calls.drawing (serving none) = refl
    go Calls.drawing_fresh (serving none) = refl
    go Calls.closing (serving none) = refl
