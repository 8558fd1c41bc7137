-- Demand 2, draws: between two reseeds no more than `interval` draws are served under a handle, since each leaves one fewer and no other
-- call adds to them, and inquire tells how many are left. Assumes of a sequence's first table that it is sound and names the handle.
use mathlib.Core.Path.{◌≡◌, refl, sym, ap, ap₂, subst, ◌∙◌}
use mathlib.Core.Bool.{true, false, false≢true, ◌&&◌, and-false, cond}
use mathlib.Core.Logic.{◌≢◌}
use mathlib.Core.List.{List, [], ◌∷◌}
use Prim.Native.Nat.{ℕ, zero-le, suc, ◌+◌, ◌-◌, ◌/◌, ◌%◌, ◌≤◌}
use native.Mathlib.Nat.{zero-add}
use native.Mathlib.Decide.{ℕ_discrete}
use native.Mathlib.Omega.{arith}
use borrow.Author.Tests.{eq-eqb, ne_eqb}
use lib.Dec.{eqb, eqb-suc-zero}
use lib.ListN.{length}
use Rattle.standard.specs.Sha256.{sha256}
use Rattle.standard.proofs.Lengths.{counter-draw}
use Rattle.drbg_shared.specs.Generator.{standing, served, filled}
use Rattle.slots.specs.Layout.{free_slot, slot_at, with_slot, last_serial, with_last_serial, Table}
use Rattle.slots.specs.Sound.{sound}
use Rattle.slots.specs.Handle.{in_use, slot_of, names, lowest_free}
use Rattle.slots.specs.declared.slot.Slot.{Slot}
use Rattle.slots.proofs.Slots.{slot_at-same, slot_at_other, slot_at-with_last_serial}
use Rattle.slots.proofs.Soundness.{sound_has}
use Rattle.slots.proofs.Handles.{named-is, names-used, names-serial, names_by, sound-named, slot_below, lowest-free, lowest_most}
use Rattle.table.specs.Answers.{Reply, stepped, installed, generator_of}
use Rattle.table.specs.Served.{mechanism_in, state_in}
use Rattle.reasons.proofs.Decisions.{refusing, serving}
use Rattle.reasons.proofs.Allowed.{may_open, may_reseed, may_draw, may_draw-fresh, may_close}
use Rattle.table.specs.Calls.{Call, opens, reseeds, draws, fresh_draws, closes, inquires, draw}
use Rattle.demands.specs.Calls.{answer, number, after, after_all}
use Rattle.demands.specs.Draws.{left, drew_by, draws_served, reseeded_by, NoReseed, none, more}
use Rattle.demands.proofs.Outcome.{Outcome, outcome}
use Rattle.demands.proofs.Answered.{served-is}
use Rattle.demands.proofs.Moves.{moved, counter-held, below_16, sound-after}
use Rattle.demands.proofs.Handles.{unnamed_2, names_same, same_parts, last-moved, gone_after, gone, le_then}

-- what a call that served n draws under the handle did for it: that many fewer are left, or it was closed
data Step (h : ℕ) (t u : Table) (n : ℕ) : Type 0 where
  goes_on : names u h ≡ true → n + left h u ≡ left h t → Step h t u n
  is_closed : names u h ≡ false → n ≡ 0 → Step h t u n

-- of a slot left alone
alone : (h : ℕ) (t u : Table) {n : ℕ} → n ≡ 0 → names t h ≡ true → slot_of u h ≡ slot_of t h → Step h t u n
alone h t u no-draw named same =
    goes_on (names_same t u h same ∙ named) (ap₂ ◌+◌ no-draw (ap (λ (s : Slot). s.interval + 1 - s.counter) same) ∙ zero-add _)

one_fewer : {c i k : ℕ} → k ≡ c + 1 → c ≤ i → 1 + (i + 1 - k) ≡ i + 1 - c
one_fewer e h = omega arith

refused_drew : (h : ℕ) (c : Call) (t : Table) (n : ℕ) → drew_by h c (record { number = suc n; table = t; blocks = 0; value = 0 }) ≡ 0
refused_drew h (opens m s i f e n p) t k = refl
refused_drew h (reseeds handle e a) t k = refl
refused_drew h (draws handle s o a) t k = ap (λ b. cond (b && eqb handle h) 1 0) (eqb-suc-zero k)
refused_drew h (fresh_draws handle s o e a) t k = refl
refused_drew h (closes handle) t k = refl
refused_drew h (inquires handle) t k = refl

module _ (h : ℕ) (t : Table) (whole : sound t ≡ true) (is : names t h ≡ true) where
  -- the slot of another generator is another slot
  apart : (handle : ℕ) → names t handle ≡ true → (handle ≡ h → ⊥) → h % 16 ≢ handle % 16
  apart handle named other at =
      other (same_parts handle h (sym at)
      (sym (names-serial t handle named) ∙ ap (λ i. (slot_at t i).serial) (sym at) ∙ names-serial t h is))

  elsewhere : (handle : ℕ) (s : Slot) → names t handle ≡ true → (handle ≡ h → ⊥) → slot_of (with_slot t (handle % 16) s) h ≡ slot_of t h
  elsewhere handle s named other = slot_at_other t (handle % 16) s (h % 16) (apart handle named other)

  free_elsewhere : (s : Slot) → (lowest_free t 0 16 ≡ 16 → ⊥) → (serial : ℕ)
      → slot_of (with_last_serial (with_slot t (lowest_free t 0 16) s) serial) h ≡ slot_of t h
  free_elsewhere s room serial =
      slot_at-with_last_serial _ serial (h % 16)
      ∙ slot_at_other t (lowest_free t 0 16) s (h % 16)
      (λ at.
      false≢true
      (sym (lowest-free t 0 16 (below_16 (lowest_most t 0 16) room)) ∙ ap (λ i. in_use (slot_at t i)) (sym at) ∙ names-used t h is))

  at_own : (s : Slot) → slot_of (with_slot t (h % 16) s) h ≡ s
  at_own s = slot_at-same t (h % 16) s (sound_has t whole (h % 16) (slot_below t h))

  -- by whether the call is under this handle
  step-at : (handle : ℕ) (s : Slot) {n : ℕ} → names t handle ≡ true → (handle ≡ h → Step h t (with_slot t (h % 16) s) n)
      → ((handle ≡ h → ⊥) → n ≡ 0) → Step h t (with_slot t (handle % 16) s) n
  step-at handle s {n} named mine others = go (ℕ_discrete handle h)
    where
      go : Dec (handle ≡ h) → Step h t (with_slot t (handle % 16) s) n
      go (yes same) = subst (λ k. Step h t (with_slot t (k % 16) s) n) (sym same) (mine same)
      go (no other) = alone h t _ (others other) is (elsewhere handle s named other)

  closed_step : {n : ℕ} → n ≡ 0 → Step h t (with_slot t (h % 16) free_slot) n
  unfolding names
  closed_step no-draw = is_closed (rw (at_own free_slot)) no-draw

  drawn-step : (s : Slot) {n : ℕ} → n ≡ 1 → in_use s ≡ true → s.serial ≡ h / 16 → s.interval ≡ (slot_of t h).interval
      → s.counter ≡ (slot_of t h).counter + 1 → (slot_of t h).counter ≤ (slot_of t h).interval → Step h t (with_slot t (h % 16) s) n
  drawn-step s {n} one used serial interval counter due =
      let new = at_own s in
      goes_on (names_by _ h (ap in_use new ∙ used) (ap (λ (s : Slot). s.serial) new ∙ serial))
      (ap₂ ◌+◌ one (ap (λ (s : Slot). s.interval + 1 - s.counter) new ∙ ap (λ i. i + 1 - s.counter) interval)
      ∙ one_fewer counter due)

  call_step : (c : Call) → reseeded_by h c (answer t c) ≡ false → Step h t (after t c) (drew_by h c (answer t c))
  unfolding stepped installed served filled standing
  call_step c quiet = go c (outcome t c) quiet
    where
      go : (c : Call) {r : Reply} → Outcome t c r → reseeded_by h c r.answer ≡ false
          → Step h t r.answer.table (drew_by h c r.answer)
      go c (refusing n f) q = alone h t t (refused_drew h c t n) is refl
      go (opens m s i f e n p) (serving ok) q = alone h t _ refl is (free_elsewhere _ (may_open ok).slot_free (last_serial t + 1))
      go (reseeds handle e a) (serving ok) q =
          step-at handle _ (sym (named-is t handle) ∙ (may_reseed ok).named_so)
          (λ same. absurd (false≢true (sym q ∙ eq-eqb handle h same))) (λ other. refl)
      go (draws handle k o a) (serving ok) q =
          let s = slot_of t handle in
          let named = sym (named-is t handle) ∙ (may_draw ok).named_so in
          step-at handle _ named
          (λ same.
          let at : slot_of t handle ≡ slot_of t h = ap (slot_of t) same in
          drawn-step _ (ap (λ b. cond b 1 0) (eq-eqb handle h same)) (names-used t handle named)
          (names-serial t handle named ∙ ap (λ k. k / 16) same) (ap (λ (s : Slot). s.interval) at)
          (counter-draw sha256 (mechanism_in s) (state_in s) (length o) a
          ∙ ap (λ k. k + 1) (counter-held (mechanism_in s) (generator_of s) ∙ ap (λ (s : Slot). s.counter) at))
          (subst (λ (s : Slot). s.counter ≤ s.interval) at (may_draw ok).not_due))
          (λ other. ap (λ b. cond b 1 0) (ne_eqb handle h other))
      go (fresh_draws handle k o e a) (serving ok) q =
          step-at handle _ (sym (named-is t handle) ∙ (may_draw-fresh ok).named_so)
          (λ same. absurd (false≢true (sym q ∙ eq-eqb handle h same))) (λ other. refl)
      go (closes handle) (serving ok) q =
          step-at handle free_slot (sym (named-is t handle) ∙ (may_close ok).named_so) (λ same. closed_step refl) (λ other. refl)
      go (inquires handle) (serving ok) q = alone h t t refl is refl

-- no draw is served under a handle that names nothing
unnamed_drew : (h : ℕ) (t : Table) (c : Call) → sound t ≡ true → names t h ≡ false → drew_by h c (answer t c) ≡ 0
unnamed_drew h t (opens m s i f e n p) whole gone = refl
unnamed_drew h t (reseeds handle e a) whole gone = refl
unnamed_drew h t (draws handle s o a) whole gone = go (ℕ_discrete handle h)
  where
    n : ℕ
    n = number t (draws handle s o a)

    go : Dec (handle ≡ h) → ◌≡◌ {A = ℕ} (cond (eqb n 0 && eqb handle h) 1 0) 0
    go (yes same) =
        ap (λ k. cond (eqb k 0 && eqb handle h) 1 0)
        (unnamed_2 t handle whole (subst (λ k. names t k ≡ false) (sym same) gone) (draws handle s o a) draw)
    go (no other) = ap (λ b. cond (eqb n 0 && b) 1 0) (ne_eqb handle h other) ∙ ap (λ b. cond b 1 0) (and-false (eqb n 0))
unnamed_drew h t (fresh_draws handle s o e a) whole gone = refl
unnamed_drew h t (closes handle) whole gone = refl
unnamed_drew h t (inquires handle) whole gone = refl

pub none_when_gone : (h : ℕ) (t : Table) (cs : List Call) → sound t ≡ true → h / 16 ≤ last_serial t → names t h ≡ false
    → draws_served h t cs ≡ 0
none_when_gone h t [] whole old unnamed = refl
none_when_gone h t (c ∷ cs) whole old unnamed =
    ap₂ ◌+◌ (unnamed_drew h t c whole unnamed)
    (none_when_gone h (after t c) cs (sound-after t c whole) (le_then old (last-moved (moved t c))) (gone_after h t c old unnamed))

serial_old : (h : ℕ) (t : Table) → sound t ≡ true → names t h ≡ true → h / 16 ≤ last_serial t
serial_old h t whole is = rw (names-serial t h is) at (sound-named t h whole is).serial_most

step_most : {h n d : ℕ} {t u : Table} → Step h t u n → (names u h ≡ true → d ≤ left h u) → (names u h ≡ false → d ≡ 0) → n + d ≤ left h t
step_most (goes_on named fewer) f g = omega (arith, f named)
step_most (is_closed unnamed no-draw) f g = omega (arith, g unnamed)

step_exact : {h n : ℕ} {t u : Table} (d l : ℕ) → Step h t u n → (names u h ≡ true → d + l ≡ left h u) → (names u h ≡ false → ⊥)
    → n + d + l ≡ left h t
step_exact d l (goes_on named fewer) f g = omega (arith, f named)
step_exact d l (is_closed unnamed no-draw) f g = absurd (g unnamed)

-- without a reseed no more draws are served under a handle than were left
pub draws_most : (h : ℕ) (t : Table) (cs : List Call) → sound t ≡ true → names t h ≡ true → NoReseed h t cs → draws_served h t cs ≤ left h t
draws_most h t [] whole is none = zero-le
draws_most h t (c ∷ cs) whole is (more quiet rest) =
    step_most (call_step h t whole is c quiet) (λ named. draws_most h (after t c) cs (sound-after t c whole) named rest)
    (none_when_gone h (after t c) cs (sound-after t c whole) (le_then (serial_old h t whole is) (last-moved (moved t c))))

-- and the draws left are exactly those not yet served, while the generator is there
pub draws_exact : (h : ℕ) (t : Table) (cs : List Call) → sound t ≡ true → names t h ≡ true → NoReseed h t cs
    → names (after_all t cs) h ≡ true → draws_served h t cs + left h (after_all t cs) ≡ left h t
draws_exact h t [] whole is none there = zero-add (left h t)
draws_exact h t (c ∷ cs) whole is (more quiet rest) there =
    step_exact (draws_served h (after t c) cs) (left h (after_all t (c ∷ cs))) (call_step h t whole is c quiet)
    (λ named. draws_exact h (after t c) cs (sound-after t c whole) named rest there)
    (λ unnamed. false≢true (sym (gone h (after t c) cs (le_then (serial_old h t whole is) (last-moved (moved t c))) unnamed) ∙ there))

-- the draws left are never more than the interval
pub left_most : (h : ℕ) (t : Table) → sound t ≡ true → names t h ≡ true → left h t ≤ (slot_of t h).interval
left_most h t whole is = let used = sound-named t h whole is in omega arith

-- so between two reseeds no more than the interval are served
pub at_most_interval : (h : ℕ) (t : Table) (cs : List Call) → sound t ≡ true → names t h ≡ true → NoReseed h t cs
    → draws_served h t cs ≤ (slot_of t h).interval
at_most_interval h t cs whole is quiet = le_then (draws_most h t cs whole is quiet) (left_most h t whole is)

-- inquire tells exactly how many are left
pub inquire_tells : (h : ℕ) (t : Table) → number t (inquires h) ≡ 0 → (answer t (inquires h)).value ≡ left h t
inquire_tells h t served-so = ap (λ (r : Reply). r.answer.value) (served-is t (inquires h) served-so)
