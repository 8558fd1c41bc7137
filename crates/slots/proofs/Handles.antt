-- Handles, and the lowest free slot. Assumes nothing.
use Rattle.std.proofs.Common.{◌≡◌, ℕ, zero, suc, ◌+◌, ◌-◌, ◌/◌, ◌%◌, ◌<◌, ◌≤◌, true, false, Some, None, Option, MatchOption, unwrap_or, sym}
use Rattle.std.proofs.Common.{◌∙◌, arith, tests}
use Rattle.slots.specs.Layout.{slot_at, last_serial, fresh_table, Table}
use Rattle.slots.specs.Sound.{sound}
use Rattle.slots.specs.Handle.{handle_of, in_use, slot_of, names, look_up, named, lowest_free}
use Rattle.std.proofs.lemmas.Bool.{and_parts}
use Rattle.slots.proofs.Slots.{slot_at-fresh}
use Rattle.slots.proofs.Soundness.{Used, sound-at, sound-used}

module _ (t : Table) (handle : ℕ) where
  -- what a look-up tells
  pub found_at : (i : ℕ) → look_up t handle ≡ Some i → (i ≡ handle % 16) × (names t handle ≡ true)
  unfolding look_up
  found_at i h = grind (arith, tests)

  pub named-is : named (look_up t handle) ≡ names t handle
  unfolding look_up
  named-is = grind (arith, tests)

  -- a handle that names a generator: its slot is in use, with its serial
  pub names-used : names t handle ≡ true → in_use (slot_of t handle) ≡ true
  unfolding names
  names-used h = (and_parts _ _ h).0

  pub names-serial : names t handle ≡ true → (slot_of t handle).serial ≡ handle / 16
  unfolding names
  names-serial h = grind (arith, tests)

  pub names_by : in_use (slot_of t handle) ≡ true → (slot_of t handle).serial ≡ handle / 16 → names t handle ≡ true
  unfolding names
  names_by used serial = grind (arith, tests)

  pub slot_below : handle % 16 < 16
  slot_below = omega arith

  -- in a sound table its slot is as document 01 has a used one
  pub sound-named : sound t ≡ true → names t handle ≡ true → Used (last_serial t) (slot_of t handle)
  sound-named whole named =
      sound-used (last_serial t) (slot_of t handle) (sound-at t whole (handle % 16) slot_below) (names-used named)

-- a handle's parts
pub handle-slot : (serial i : ℕ) → i < 16 → handle_of serial i % 16 ≡ i
handle-slot serial i h = omega arith

pub handle-serial : (serial i : ℕ) → i < 16 → handle_of serial i / 16 ≡ serial
handle-serial serial i h = omega arith

pub handle-parts : (handle : ℕ) → handle_of (handle / 16) (handle % 16) ≡ handle
handle-parts handle = omega arith

pub names_fresh : (handle : ℕ) → names fresh_table handle ≡ false
unfolding names
names_fresh handle = rw (slot_at-fresh (handle % 16) (slot_below fresh_table handle))

module _ (t : Table) where
  -- with none free
  lowest_none : (from n : ℕ) → ((k : ℕ) → from ≤ k → k < from + n → in_use (slot_at t k) ≡ true) → lowest_free t from n ≡ from + n
  unfolding lowest_free
  lowest_none from zero h = grind arith
  lowest_none from (suc n) h = grind (arith, tests, lowest_none (from + 1) n)

  lowest_is : (from n i : ℕ) → from ≤ i → i < from + n → in_use (slot_at t i) ≡ false
      → ((k : ℕ) → from ≤ k → k < i → in_use (slot_at t k) ≡ true) → lowest_free t from n ≡ i
  unfolding lowest_free
  lowest_is from zero i h l free before = omega arith
  lowest_is from (suc n) i h l free before = grind (arith, tests, lowest_is (from + 1) n i)

  -- by what a search of the slots from `from` up to below `to` finds
  pub lowest_by : (from to : ℕ) (r : Option ℕ) → from ≤ to
      → MatchOption r ((k : ℕ) → from ≤ k → k < to → in_use (slot_at t k) ≡ true)
      (λ i. (from ≤ i) × (i < to) × (in_use (slot_at t i) ≡ false) × ((k : ℕ) → from ≤ k → k < i → in_use (slot_at t k) ≡ true))
      → unwrap_or r to ≡ lowest_free t from (to - from)
  lowest_by from to None order h = sym (lowest_none from (to - from) (λ k l m. h k l (omega arith)) ∙ omega arith)
  lowest_by from to (Some i) order h = sym (lowest_is from (to - from) i h.0 (omega (arith, h.1)) h.2 h.3)

-- the lowest free slot is one of those looked through, or the number past them
pub lowest_most : (t : Table) (from n : ℕ) → lowest_free t from n ≤ from + n
unfolding lowest_free
lowest_most t from zero = grind arith
lowest_most t from (suc n) = grind (arith, tests, lowest_most t (from + 1) n)

-- it is free
pub lowest-free : (t : Table) (from n : ℕ) → lowest_free t from n < from + n → in_use (slot_at t (lowest_free t from n)) ≡ false
unfolding lowest_free
lowest-free t from zero h = grind arith
lowest-free t from (suc n) h = grind (arith, tests, lowest-free t (from + 1) n)

-- and those before it are in use
pub lowest_before : (t : Table) (from n i : ℕ) → from ≤ i → i < lowest_free t from n → in_use (slot_at t i) ≡ true
unfolding lowest_free
lowest_before t from zero i h room = grind arith
lowest_before t from (suc n) i h room = grind (arith, tests, lowest_before t (from + 1) n i)
