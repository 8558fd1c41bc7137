-- Demand 3, the count: a served call reports document 01's closed form at the lengths that it was lent, no call reports more than 8,288
-- blocks, and a draw from a fresh table does report as many. Assumes nothing.
use mathlib.Core.Path.{◌≡◌, refl, sym, ap, ap₂, subst, ◌∙◌}
use mathlib.Core.Bool.{true, false}
use mathlib.Core.List.{List, []}
use Prim.Native.Nat.{ℕ, ◌+◌, ◌≤◌}
use lib.Dec.{lit<, lit≤}
use lib.ListN.{length}
use Rattle.standard.specs.Strings.{ceiling}
use Rattle.standard.specs.Sha256.{sha256}
use Rattle.standard.specs.Functions.{opening}
use Rattle.standard.proofs.Lengths.{counter-opening}
use Rattle.standard.proofs.Bound.{bounded}
use Rattle.standard.proofs.Counts.{opening-blocks, reseeding-blocks, draw-blocks, fresh_draw-blocks}
use Rattle.drbg.specs.Mechanism.{mechanism_of}
use Rattle.drbg_shared.specs.Generator.{standing, served, filled}
use Rattle.slots.specs.Layout.{Table, slot_at, last_serial, fresh_table}
use Rattle.slots.specs.Handle.{slot_of, names, look_up, named, lowest_free}
use Rattle.slots.specs.declared.slot.Slot.{Slot}
use Rattle.slots.proofs.Soundness.{sound-fresh}
use Rattle.slots.proofs.Handles.{named-is}
use Rattle.reasons.specs.Reasons.{NoneHolds, first_of}
use Rattle.reasons.specs.Checks.{rounded, open_reasons, draw_reasons}
use Rattle.table.specs.Calls.{Call, opens, reseeds, draws, fresh_draws, closes, inquires, reasons_of}
use Rattle.table.specs.Answers.{Reply, stepped, installed, new_slot}
use Rattle.table.specs.Served.{mechanism_in, state_in}
use Rattle.reasons.proofs.Decisions.{refusing, serving}
use Rattle.reasons.proofs.Allowed.{may_open, may_reseed, may_draw, may_draw-fresh}
use Rattle.demands.specs.Calls.{answer, number, after}
use Rattle.demands.specs.Blocks.{count_of, first_opening, longest_draw}
use Rattle.demands.proofs.Outcome.{Outcome, outcome}
use Rattle.demands.proofs.Answered.{served-none, none-served, fresh-answered}
use Rattle.demands.proofs.Standard.{sized_by, open_standard, reseed_standard, draw_standard, fresh_draw_standard}
use Rattle.demands.proofs.Moves.{sound-after}
use Rattle.demands.proofs.Between.{opened-named}

-- the closed form of the longest draw on an HMAC_DRBG generator
longest_count : (t : Table) (h strength : ℕ) (out additional : List ℕ) → (slot_of t h).mechanism ≡ 1 → length out ≡ 65536
    → length additional ≡ 1024 → count_of t (draws h strength out additional) ≡ 8288
unfolding ceiling
longest_count t h strength out additional kind asked extra = simp (kind, asked, extra) refl

-- close and inquire count no blocks
pub close-blocks : (t : Table) (h : ℕ) → (answer t (closes h)).blocks ≡ 0
close-blocks t h = go (outcome t (closes h))
  where
    go : {r : Reply} → Outcome t (closes h) r → r.answer.blocks ≡ 0
    go (refusing n f) = refl
    go (serving none) = refl

pub inquire-blocks : (t : Table) (h : ℕ) → (answer t (inquires h)).blocks ≡ 0
inquire-blocks t h = go (outcome t (inquires h))
  where
    go : {r : Reply} → Outcome t (inquires h) r → r.answer.blocks ≡ 0
    go (refusing n f) = refl
    go (serving none) = refl

-- a served call
pub blocks_are : (t : Table) (c : Call) → number t c ≡ 0 → (answer t c).blocks ≡ count_of t c
blocks_are t (opens m s i f e n p) so = (open_standard t m s i f e n p so).counted ∙ opening-blocks sha256 (lit< tt) (mechanism_of m) e n p
blocks_are t (reseeds h e a) so =
    let may = may_reseed (served-none t (reseeds h e a) so) in
    (reseed_standard t h e a so).counted
    ∙ reseeding-blocks sha256 (lit< tt) (mechanism_in (slot_of t h)) (state_in (slot_of t h)) e a (sized_by t h may.sound_so may.named_so)
blocks_are t (draws h k o a) so =
    let may = may_draw (served-none t (draws h k o a) so) in
    (draw_standard t h k o a so).0.counted
    ∙ draw-blocks sha256 (lit< tt) (mechanism_in (slot_of t h)) (state_in (slot_of t h)) (length o) a
    (sized_by t h may.sound_so may.named_so)
blocks_are t (fresh_draws h k o e a) so =
    let may = may_draw-fresh (served-none t (fresh_draws h k o e a) so) in
    (fresh_draw_standard t h k o e a so).0.counted
    ∙ fresh_draw-blocks sha256 (lit< tt) (mechanism_in (slot_of t h)) (state_in (slot_of t h)) (length o) e a
    (sized_by t h may.sound_so may.named_so)
blocks_are t (closes h) so = close-blocks t h
blocks_are t (inquires h) so = inquire-blocks t h

-- no call reports more than 8,288 blocks
pub blocks_most : (t : Table) (c : Call) → (answer t c).blocks ≤ 8288
unfolding stepped installed served filled
blocks_most t c = go c (outcome t c)
  where
    go : (c : Call) {r : Reply} → Outcome t c r → r.answer.blocks ≤ 8288
    go c (refusing n f) = lit≤ tt
    go (opens m s i f e n p) (serving none) =
        let may = may_open none in
        (bounded (mechanism_of m)).opening e n p may.entropy_most may.nonce_most may.personalization_most
    go (reseeds h e a) (serving none) =
        let may = may_reseed none in
        let s = slot_of t h in
        (bounded (mechanism_in s)).reseeding (state_in s) e a (sized_by t h may.sound_so may.named_so)
        may.entropy_most may.additional_most
    go (draws h k o a) (serving none) =
        let may = may_draw none in
        let s = slot_of t h in
        (bounded (mechanism_in s)).draw (state_in s) (length o) a (sized_by t h may.sound_so may.named_so)
        may.request_most may.additional_most
    go (fresh_draws h k o e a) (serving none) =
        let may = may_draw-fresh none in
        let s = slot_of t h in
        (bounded (mechanism_in s)).fresh_draw (state_in s) (length o) e a
        (sized_by t h may.sound_so may.named_so) may.request_most may.entropy_most may.additional_most
    go (closes h) (serving none) = lit≤ tt
    go (inquires h) (serving none) = lit≤ tt

-- a served draw of 65,536 bytes with 1,024 of additional input on an HMAC_DRBG generator reports 8,288
pub longest-draw : (t : Table) (h strength : ℕ) (out additional : List ℕ) → (slot_of t h).mechanism ≡ 1 → length out ≡ 65536
    → length additional ≡ 1024 → number t (draws h strength out additional) ≡ 0 → (answer t (draws h strength out additional)).blocks ≡ 8288
longest-draw t h strength out additional kind asked extra so =
    blocks_are t (draws h strength out additional) so ∙ longest_count t h strength out additional kind asked extra

-- and there is one
module _ (entropy nonce : List ℕ) (es : length entropy ≡ 32) (ns : length nonce ≡ 16) where
  first-served : number fresh_table (first_opening entropy nonce) ≡ 0
  unfolding first_of open_reasons rounded
  first-served = fresh-answered 1 256 entropy nonce es ns refl

  first-handle : (answer fresh_table (first_opening entropy nonce)).value ≡ 16
  unfolding lowest_free slot_at last_serial fresh_table
  first-handle = (open_standard fresh_table 1 256 1 false entropy nonce [] first-served).handle

  first_slot : slot_of (after fresh_table (first_opening entropy nonce)) 16
      ≡ new_slot 1 (rounded 256) 1 false (last_serial fresh_table + 1) (standing (opening sha256 (mechanism_of 1) entropy nonce []).value)
  first_slot =
      ap (slot_of (after fresh_table (first_opening entropy nonce))) (sym first-handle)
      ∙ (open_standard fresh_table 1 256 1 false entropy nonce [] first-served).slot

  module _ (out additional : List ℕ) (asked : length out ≡ 65536) (extra : length additional ≡ 1024) where
    longest_served : number (after fresh_table (first_opening entropy nonce)) (longest_draw out additional) ≡ 0
    unfolding draw_reasons standing rounded
    longest_served =
        let t = after fresh_table (first_opening entropy nonce) in
        let s = slot_of t 16 in
        let n : ℕ = length out in
        let a : ℕ = length additional in
        let named_so : named (look_up t 16) ≡ true =
        named-is t 16 ∙ ap (names t) (sym first-handle) ∙ opened-named fresh_table 1 256 1 false entropy nonce [] first-served in
        let same : reasons_of t (longest_draw out additional) ≡ draw_reasons true true 256 1 1 256 65536 1024 =
        ap₂ (λ w f. draw_reasons w f s.strength s.interval s.counter 256 n a)
        (sound-after fresh_table (first_opening entropy nonce) sound-fresh) named_so
        ∙ ap (λ (s : Slot). draw_reasons true true s.strength s.interval s.counter 256 n a) first_slot
        ∙ ap (λ c. draw_reasons true true 256 1 c 256 n a) (counter-opening sha256 (mechanism_of 1) entropy nonce [])
        ∙ ap₂ (draw_reasons true true 256 1 1 256) asked extra in
        none-served t (longest_draw out additional) (subst NoneHolds (sym same) (refl, (refl, (refl, (refl, (refl, (refl, tt)))))))

    pub longest_from_fresh : (answer (after fresh_table (first_opening entropy nonce)) (longest_draw out additional)).blocks ≡ 8288
    longest_from_fresh =
        let t = after fresh_table (first_opening entropy nonce) in
        longest-draw t 16 256 out additional (ap (λ (s : Slot). s.mechanism) first_slot) asked extra longest_served
