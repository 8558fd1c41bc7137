-- What a call can do to a table: nothing, a new generator in a free slot with the next serial, a named generator's step, or a named
-- generator's end. So soundness is kept by every call, and every table reached from the fresh one is sound. Assumes nothing.
use mathlib.Core.Path.{◌≡◌, refl, sym, ap, subst, ◌∙◌}
use mathlib.Core.Bool.{true, cond}
use mathlib.Core.List.{List, [], ◌∷◌}
use Prim.Native.Nat.{ℕ, zero-le, suc, ◌+◌, ◌%◌, ◌≤◌, ◌<◌}
use native.Mathlib.Omega.{arith}
use lib.Dec.{lit<, eqb-suc-zero}
use lib.ListN.{length}
use Rattle.standard.specs.State.{State}
use Rattle.standard.specs.Sha256.{sha256}
use Rattle.standard.specs.Functions.{Mechanism, HMAC_DRBG, Hash_DRBG}
use Rattle.standard.specs.Lengths.{Sized, state_bytes}
use Rattle.standard.proofs.Lengths.{sized_opening, sized_reseeding, sized_draw, sized_fresh_draw, counter-opening, counter-reseeding}
use Rattle.standard.proofs.Lengths.{counter-draw, counter-fresh_draw}
use Rattle.drbg.specs.Mechanism.{mechanism_of}
use Rattle.drbg_shared.specs.Generator.{Generator, state_of, standing, served, filled}
use Rattle.slots.specs.Layout.{free_slot, with_slot, last_serial, with_last_serial, fresh_table, Table}
use Rattle.slots.specs.Sound.{sound}
use Rattle.slots.specs.Handle.{handle_of, slot_of, names, look_up, named, lowest_free}
use Rattle.slots.specs.declared.slot.Slot.{Slot}
use Rattle.slots.proofs.Soundness.{Used, used_so, free-sound, sound-fresh, sound-with_slot, sound-opened}
use Rattle.slots.proofs.Handles.{named-is, sound-named, lowest_most}
use Rattle.table.specs.Answers.{Reply, stepped, installed, with_generator, generator_of}
use Rattle.table.specs.Served.{mechanism_in, state_in}
use Rattle.reasons.proofs.Decisions.{refusing, serving}
use Rattle.table.proofs.Standing.{used-standing, used_new, sized_in}
use Rattle.reasons.proofs.Allowed.{may_open, may_reseed, may_draw, may_draw-fresh, may_close}
use Rattle.table.specs.Calls.{Call, opens, reseeds, draws, fresh_draws, closes, inquires}
use Rattle.demands.specs.Calls.{answer, after, after_all}
use Rattle.demands.specs.Handles.{issued_by}
use Rattle.demands.proofs.Outcome.{Outcome, outcome}

-- with the handles that the call gives out: one, or none
pub data Moves (t : Table) : List ℕ → Table → Type 0 where
  stays : Moves t [] t
  adds : (s : Slot) → sound t ≡ true → lowest_free t 0 16 < 16 → Used (last_serial t + 1) s → s.serial ≡ last_serial t + 1
      → Moves t (handle_of (last_serial t + 1) (lowest_free t 0 16) ∷ [])
      (with_last_serial (with_slot t (lowest_free t 0 16) s) (last_serial t + 1))
  steps : (handle : ℕ) (s : Slot) → sound t ≡ true → names t handle ≡ true → Used (last_serial t) s
      → s.serial ≡ (slot_of t handle).serial → Moves t [] (with_slot t (handle % 16) s)
  ends : (handle : ℕ) → sound t ≡ true → names t handle ≡ true → Moves t [] (with_slot t (handle % 16) free_slot)

-- a served step of the generator that the handle names
step-moves : (t : Table) (handle : ℕ) (st : State) → sound t ≡ true → named (look_up t handle) ≡ true
    → (Used (last_serial t) (slot_of t handle) → Sized (state_bytes sha256 (mechanism_in (slot_of t handle))) st)
    → (Used (last_serial t) (slot_of t handle) → (1 ≤ st.counter) × (st.counter ≤ (slot_of t handle).interval + 1))
    → Moves t [] (with_slot t (handle % 16) (with_generator (slot_of t handle) (standing st)))
step-moves t handle st whole found sized counted =
    let is : names t handle ≡ true = sym (named-is t handle) ∙ found in
    let u = sound-named t handle whole is in
    steps handle _ whole is
    (used-standing (last_serial t) (slot_of t handle) st u (sized u) (counted u).0 (counted u).1) refl

pub counter-held : (m : Mechanism) (g : Generator) → (state_of m g).counter ≡ g.counter
unfolding state_of
counter-held HMAC_DRBG g = refl
counter-held Hash_DRBG g = refl

-- a counter one above a number within the interval
counter_within : (c : ℕ) {n k : ℕ} → n ≡ c + 1 → c ≤ k → (1 ≤ n) × (n ≤ k + 1)
counter_within c e h = (omega arith, omega arith)

pub below_16 : {n : ℕ} → n ≤ 16 → (n ≡ 16 → ⊥) → n < 16
below_16 h l = omega (arith, l)

refused_issues : (c : Call) (t : Table) (n : ℕ) → issued_by c (record { number = suc n; table = t; blocks = 0; value = 0 }) ≡ []
refused_issues (opens m s i f e n p) t k = ap (λ b. cond b (0 ∷ []) []) (eqb-suc-zero k)
refused_issues (reseeds handle e a) t k = refl
refused_issues (draws handle s o a) t k = refl
refused_issues (fresh_draws handle s o e a) t k = refl
refused_issues (closes handle) t k = refl
refused_issues (inquires handle) t k = refl

pub moved : (t : Table) (c : Call) → Moves t (issued_by c (answer t c)) (after t c)
unfolding stepped installed served filled standing
moved t c = go c (outcome t c)
  where
    go : (c : Call) {r : Reply} → Outcome t c r → Moves t (issued_by c r.answer) r.answer.table
    go c (refusing n f) = subst (λ hs. Moves t hs t) (sym (refused_issues c t n)) stays
    go (opens m s i f e n p) (serving none) =
        let may = may_open none in
        adds _ may.sound_so (below_16 (lowest_most t 0 16) may.slot_free)
        (used_new m s i f (last_serial t + 1) _ may.mechanism_so may.interval-some may.interval_most (omega arith)
        (sized_opening sha256 (lit< tt) (mechanism_of m) e n p) (counter-opening sha256 (mechanism_of m) e n p))
        refl
    go (reseeds handle e a) (serving none) =
        let s = slot_of t handle in
        let may = may_reseed none in
        step-moves t handle _ may.sound_so may.named_so
        (λ u. sized_reseeding sha256 (lit< tt) (mechanism_in s) (state_in s) e a)
        (λ u. counter_within 0 (counter-reseeding sha256 (mechanism_in s) (state_in s) e a) zero-le)
    go (draws handle k o a) (serving none) =
        let s = slot_of t handle in
        let may = may_draw none in
        step-moves t handle _ may.sound_so may.named_so
        (λ u. sized_draw sha256 (mechanism_in s) (state_in s) (length o) a (sized_in (last_serial t) s u))
        (λ u.
        counter_within s.counter
        (counter-draw sha256 (mechanism_in s) (state_in s) (length o) a ∙ ap (λ x. x + 1) (counter-held (mechanism_in s) (generator_of s)))
        may.not_due)
    go (fresh_draws handle k o e a) (serving none) =
        let s = slot_of t handle in
        let may = may_draw-fresh none in
        step-moves t handle _ may.sound_so may.named_so
        (λ u. sized_fresh_draw sha256 (lit< tt) (mechanism_in s) (state_in s) (length o) e a)
        (λ u. counter_within 1 (counter-fresh_draw sha256 (mechanism_in s) (state_in s) (length o) e a) u.interval-some)
    go (closes handle) (serving none) =
        let may = may_close none in ends handle may.sound_so (sym (named-is t handle) ∙ may.named_so)
    go (inquires handle) (serving none) = stays

-- soundness is kept by every call
pub sound-moved : {t u : Table} {hs : List ℕ} → Moves t hs u → sound t ≡ true → sound u ≡ true
sound-moved stays h = h
sound-moved {t} (adds s whole room used serial) h =
    sound-opened t (lowest_free t 0 16) (last_serial t + 1) s h (omega arith) (used_so (last_serial t + 1) s used)
sound-moved {t} (steps handle s whole is used serial) h =
    sound-with_slot t (handle % 16) s h (used_so (last_serial t) s used)
sound-moved {t} (ends handle whole is) h = sound-with_slot t (handle % 16) free_slot h (free-sound (last_serial t))

pub sound-after : (t : Table) (c : Call) → sound t ≡ true → sound (after t c) ≡ true
sound-after t c = sound-moved (moved t c)

pub sound-after_all : (t : Table) (cs : List Call) → sound t ≡ true → sound (after_all t cs) ≡ true
sound-after_all t [] h = h
sound-after_all t (c ∷ cs) h = sound-after_all (after t c) cs (sound-after t c h)

-- and every table reached from the fresh one is sound
pub sound_reached : (cs : List Call) → sound (after_all fresh_table cs) ≡ true
sound_reached cs = sound-after_all fresh_table cs sound-fresh
