-- What a table holds after a slot or the last serial is put in. Assumes nothing.
use Rattle.std.proofs.Common.{◌≡◌, ℕ, zero, suc, ◌<◌, ◌≢◌, ◌⊎◌, List, [], ◌∷◌, length, get_or, set, refl, ap, inl, inr, get_or-set_other}
use Rattle.std.proofs.Common.{get_or-set_same, set-set}
use lib.ListN.{get_or-replicate}
use lib.Seq.{set-get_or}
use Rattle.slots.specs.Layout.{free_slot, no_slot, slot_at, with_slot, last_serial, with_last_serial, fresh_table, Table}
use Rattle.slots.specs.declared.slot.Slot.{Slot}

-- slot i is there: so for i below 16 in every table that the code holds, and in every sound one
pub record Has (t : Table) (i : ℕ) : Type 0 where
  pub has : i < length t.slots

set_cases : {A : Type 0} (l : List A) (i j : ℕ) (a d : A) → (get_or (set l i a) j d ≡ a) ⊎ (get_or (set l i a) j d ≡ get_or l j d)
set_cases [] i j a d = inr refl
set_cases (x ∷ l) zero zero a d = inl refl
set_cases (x ∷ l) zero (suc j) a d = inr refl
set_cases (x ∷ l) (suc i) zero a d = inr refl
set_cases (x ∷ l) (suc i) (suc j) a d = set_cases l i j a d

module _ (t : Table) (i : ℕ) (s : Slot) where
  -- every slot is the new one or as it was
  pub slot_at-cases : (j : ℕ) → (slot_at (with_slot t i s) j ≡ s) ⊎ (slot_at (with_slot t i s) j ≡ slot_at t j)
  unfolding slot_at with_slot
  slot_at-cases j = set_cases t.slots i j s no_slot

  pub slot_at-same : Has t i → slot_at (with_slot t i s) i ≡ s
  unfolding slot_at with_slot
  slot_at-same h = get_or-set_same t.slots i s no_slot h.has

  pub slot_at_other : (j : ℕ) → j ≢ i → slot_at (with_slot t i s) j ≡ slot_at t j
  unfolding slot_at with_slot
  slot_at_other j h = get_or-set_other t.slots i j s no_slot h

  pub last_serial-with_slot : last_serial (with_slot t i s) ≡ last_serial t
  unfolding last_serial with_slot
  last_serial-with_slot = refl

  pub with_slot-with_slot : (u : Slot) → with_slot (with_slot t i s) i u ≡ with_slot t i u
  unfolding with_slot
  with_slot-with_slot u = ap (λ l. record { slots = l; last = t.last }) (set-set t.slots i s u)

pub with_slot-slot_at : (t : Table) (i : ℕ) → with_slot t i (slot_at t i) ≡ t
unfolding with_slot slot_at
with_slot-slot_at t i = ap (λ l. record { slots = l; last = t.last }) (set-get_or t.slots i no_slot)

module _ (t : Table) (serial : ℕ) where
  pub slot_at-with_last_serial : (i : ℕ) → slot_at (with_last_serial t serial) i ≡ slot_at t i
  unfolding slot_at with_last_serial
  slot_at-with_last_serial i = refl

  pub last_serial-with_last_serial : last_serial (with_last_serial t serial) ≡ serial
  unfolding last_serial with_last_serial
  last_serial-with_last_serial = refl

pub slot_at-fresh : (i : ℕ) → i < 16 → slot_at fresh_table i ≡ free_slot
unfolding slot_at fresh_table
slot_at-fresh i h = get_or-replicate 16 i free_slot no_slot h
