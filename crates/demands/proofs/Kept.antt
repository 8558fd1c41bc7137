-- A call changes no slot but its own generator's, only an opening changes the last serial, inquire changes nothing, and closing leaves
-- every field zero and its slot the lowest free one again where none lower is free: a service puts one slot in and keeps the rest.
-- Assumes nothing.
use mathlib.Core.Path.{◌≡◌, refl, sym, ap, ◌∙◌}
use mathlib.Core.Bool.{false, false≢true}
use mathlib.Core.Logic.{◌≢◌}
use Prim.Native.Nat.{ℕ, ◌+◌, ◌%◌, ◌<◌}
use native.Mathlib.Decide.{dec_lt}
use native.Mathlib.Omega.{arith}
use Rattle.slots.specs.Layout.{free_slot, slot_at, last_serial, Table}
use Rattle.slots.specs.Handle.{in_use, slot_of, lowest_free}
use Rattle.slots.proofs.Slots.{slot_at-same, slot_at_other, last_serial-with_slot, slot_at-with_last_serial}
use Rattle.slots.proofs.Soundness.{sound_has}
use Rattle.slots.proofs.Handles.{slot_below, lowest-free, lowest_before}
use Rattle.table.specs.Answers.{Reply, stepped, installed}
use Rattle.reasons.proofs.Decisions.{refusing, serving}
use Rattle.reasons.proofs.Allowed.{may_close}
use Rattle.table.specs.Calls.{Call, opens, reseeds, draws, fresh_draws, closes, inquires, Under, reseed, draw, fresh-draw, close, inquire}
use Rattle.demands.specs.Calls.{number, after, own}
use Rattle.demands.specs.Handles.{UsedBelow}
use Rattle.demands.proofs.Outcome.{Outcome, outcome}
use Rattle.demands.proofs.Answered.{served-is, served-none}

pub others_kept : (t : Table) (c : Call) (j : ℕ) → j ≢ own t c → slot_at (after t c) j ≡ slot_at t j
unfolding stepped installed
others_kept t c j other = go c (outcome t c) other
  where
    go : (c : Call) {r : Reply} → Outcome t c r → j ≢ own t c → slot_at r.answer.table j ≡ slot_at t j
    go c (refusing n f) h = refl
    go (opens m s i f e n p) (serving none) h =
        slot_at-with_last_serial _ (last_serial t + 1) j ∙ slot_at_other t (lowest_free t 0 16) _ j h
    go (reseeds handle e a) (serving none) h = slot_at_other t (handle % 16) _ j h
    go (draws handle s o a) (serving none) h = slot_at_other t (handle % 16) _ j h
    go (fresh_draws handle s o e a) (serving none) h = slot_at_other t (handle % 16) _ j h
    go (closes handle) (serving none) h = slot_at_other t (handle % 16) _ j h
    go (inquires handle) (serving none) h = refl

pub last-kept : (t : Table) (c : Call) {handle : ℕ} → Under handle c → last_serial (after t c) ≡ last_serial t
unfolding stepped
last-kept t c under = go under (outcome t c)
  where
    go : {c : Call} {handle : ℕ} → Under handle c → {r : Reply} → Outcome t c r → last_serial r.answer.table ≡ last_serial t
    go under (refusing n f) = refl
    go reseed (serving none) = last_serial-with_slot t _ _
    go draw (serving none) = last_serial-with_slot t _ _
    go fresh-draw (serving none) = last_serial-with_slot t _ _
    go close (serving none) = last_serial-with_slot t _ _
    go inquire (serving none) = refl

pub inquire_keeps : (t : Table) (handle : ℕ) → after t (inquires handle) ≡ t
inquire_keeps t handle = go (outcome t (inquires handle))
  where
    go : {r : Reply} → Outcome t (inquires handle) r → r.answer.table ≡ t
    go (refusing n f) = refl
    go (serving none) = refl

pub closing_frees : (t : Table) (handle : ℕ) → number t (closes handle) ≡ 0 → slot_of (after t (closes handle)) handle ≡ free_slot
closing_frees t handle h =
    let whole = (may_close (served-none t (closes handle) h)).sound_so in
    ap (λ (r : Reply). slot_of r.answer.table handle) (served-is t (closes handle) h)
    ∙ slot_at-same t (handle % 16) free_slot (sound_has t whole (handle % 16) (slot_below t handle))

never_below : (n : ℕ) → n < n → ⊥
never_below n h = omega arith

-- a free slot with none free below it is the lowest free one
lowest_is : (t : Table) (k : ℕ) → k < 16 → UsedBelow t k → in_use (slot_at t k) ≡ false → lowest_free t 0 16 ≡ k
lowest_is t k room below free = go (dec_lt k (lowest_free t 0 16)) (dec_lt (lowest_free t 0 16) k)
  where
    go : Dec (k < lowest_free t 0 16) → Dec (lowest_free t 0 16 < k) → lowest_free t 0 16 ≡ k
    go (yes above) less = absurd (false≢true (sym free ∙ lowest_before t 0 16 k (omega arith) above))
    go (no above) (yes less) =
        absurd (false≢true (sym (lowest-free t 0 16 (omega arith)) ∙ below (lowest_free t 0 16) (omega arith)))
    go (no above) (no less) = omega (arith, above, less)

pub closed_lowest : (t : Table) (handle : ℕ) → number t (closes handle) ≡ 0 → UsedBelow t (handle % 16)
    → lowest_free (after t (closes handle)) 0 16 ≡ handle % 16
closed_lowest t handle h below =
    let u = after t (closes handle) in
    lowest_is u (handle % 16) (slot_below t handle)
    (λ i less. ap in_use (others_kept t (closes handle) i (λ at. never_below i (omega arith))) ∙ below i (omega arith))
    (ap in_use (closing_frees t handle h))
