-- How a call comes out, by what it found: an unsound table, a handle that names nothing, a reason, or none. Assumes nothing.
use mathlib.Core.Path.{◌≡◌, sym, ap, ap₂, subst, ◌∙◌}
use mathlib.Core.Bool.{Bool, true}
use Prim.Native.Nat.{ℕ, ◌+◌, ◌%◌, ◌^◌, ◌<◌}
use native.Mathlib.Omega.{arith}
use Rattle.slots.specs.Layout.{last_serial, slot_at, Table}
use Rattle.slots.specs.Sound.{sound}
use Rattle.slots.specs.Handle.{slot_of, look_up, named}
use Rattle.slots.specs.declared.slot.Slot.{Slot}
use Rattle.std.specs.Prelude.{Some}
use Rattle.slots.proofs.Soundness.{Used}
use Rattle.slots.proofs.Handles.{found_at, named-is, sound-named}
use Rattle.reasons.specs.Reasons.{Reasons, first_of}

-- the table is sound, and the handle names the generator in slot i
pub record Named (t : Table) (handle i : ℕ) : Type 0 where
  pub sound : sound t ≡ true
  pub found : named (look_up t handle) ≡ true
  pub place : i ≡ handle % 16

pub names-slot : (t : Table) (handle i : ℕ) → sound t ≡ true → Some i ≡ look_up t handle → Named t handle i
names-slot t handle i whole found =
    record { sound = whole; found = sym (ap named found); place = (found_at t handle i (sym found)).0 }

pub below_by : (t : Table) (handle i : ℕ) → Some i ≡ look_up t handle → i < 16
below_by t handle i found = omega (arith, (found_at t handle i (sym found)).0)

module _ {t : Table} {handle i : ℕ} (is : Named t handle i) where
  pub below : i < 16
  below = omega (arith, is.place)

  pub here : {s : Slot} → s ≡ slot_at t i → s ≡ slot_of t handle
  here at = at ∙ ap (slot_at t) is.place

  -- what the scan told of the generator's slot
  pub used : Used (last_serial t) (slot_of t handle)
  used = sound-named t handle is.sound (sym (named-is t handle) ∙ is.found)

  pub used-here : {s : Slot} → s ≡ slot_at t i → Used (last_serial t) s
  used-here at = subst (Used (last_serial t)) (sym (here at)) used

  -- the first reason, worked out on the slot's own numbers
  pub first-here : {s : Slot} → s ≡ slot_at t i → (reasons : Bool → Bool → Slot → Reasons) {n : ℕ} → n ≡ first_of (reasons true true s)
      → n ≡ first_of (reasons (sound t) (named (look_up t handle)) (slot_of t handle))
  first-here at reasons first =
      first ∙
      ap (λ u. first_of (reasons true true u)) (here at) ∙
      sym (ap₂ (λ a b. first_of (reasons a b (slot_of t handle))) is.sound is.found)

  -- a sound slot's counter is small
  pub counter-fits : {s : Slot} → s ≡ slot_at t i → s.counter + 1 < 2 ^ 63
  counter-fits at = let u = used-here at in omega arith
