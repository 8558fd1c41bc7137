-- A state of the right size stands in a slot as document 01 has it, and a used slot holds a state of the right size.
-- Assumes of a served state that its strings have the mechanism's length (standard, `sized_opening` and its kin), and of its
-- counter what each law says.
use mathlib.Core.Path.{◌≡◌, refl, ap, ◌∙◌}
use mathlib.Core.Bool.{Bool, true, false, ◌||◌, cond}
use mathlib.Core.Logic.{◌⊎◌, inl, inr}
use mathlib.Core.List.{List}
use Prim.Native.Nat.{ℕ, ◌+◌, ◌-◌, ◌^◌, ◌≤◌}
use native.Mathlib.Nat.{le_refl}
use native.Mathlib.Omega.{arith}
use lib.Dec.{eqb, lit≤}
use lib.ListN.{length, drop, replicate, length-append, length-replicate}
use lib.Seq.{length-take-le, drop_at}
use Rattle.standard.specs.State.{State}
use Rattle.standard.specs.Sha256.{sha256}
use Rattle.standard.specs.Functions.{Mechanism, HMAC_DRBG, Hash_DRBG}
use Rattle.standard.specs.Lengths.{Sized, state_bytes}
use Rattle.drbg.specs.Mechanism.{mechanism_of}
use Rattle.drbg_shared.specs.Generator.{Generator, state_of, field, standing}
use Rattle.slots.specs.Sound.{all_zero}
use Rattle.slots.specs.declared.slot.Slot.{Slot}
use Rattle.slots.proofs.Flags.{or-first, or-second}
use Rattle.slots.proofs.Zeros.{all_zero-replicate}
use Rattle.slots.proofs.Soundness.{Field, Used}
use Rattle.reasons.specs.Checks.{rounded}
use Rattle.reasons.proofs.Strengths.{of_four}
use Rattle.table.specs.Answers.{generator_of, with_generator, new_slot}
use Rattle.table.specs.Served.{mechanism_in, state_in}

length-field : (s : List ℕ) → length s ≤ 55 → length (field s) ≡ 55
unfolding field
length-field s h = simp (length-append, length-replicate) (omega arith)

rest-field : (s : List ℕ) → length s ≡ 32 → all_zero (drop 32 (field s)) ≡ true
unfolding field
rest-field s h = ap all_zero (drop_at s (replicate (55 - length s) 0) 32 h) ∙ all_zero-replicate (55 - length s)

-- a string of the mechanism's length as a field
pub field-standing : (mechanism : ℕ) (s : List ℕ) → (mechanism ≡ 1) ⊎ (mechanism ≡ 2)
    → length s ≡ state_bytes sha256 (mechanism_of mechanism)
    → Field mechanism (field s)
field-standing mechanism s (inl one) h =
    let size : length s ≡ 32 = rw one at h in
    record { bytes = length-field s (omega arith); rest = or-second (eqb mechanism 2) (rest-field s size) }
field-standing mechanism s (inr two) h =
    let size : length s ≡ 55 = rw two at h in
    record { bytes = length-field s (omega arith); rest = or-first _ (ap (λ m. eqb m 2) two) }

-- a generator's successor keeps its slot sound
pub used-standing : (last : ℕ) (s : Slot) (st : State) → Used last s → Sized (state_bytes sha256 (mechanism_in s)) st
    → 1 ≤ st.counter → st.counter ≤ s.interval + 1 → Used last (with_generator s (standing st))
unfolding standing
used-standing last s st u sized some most =
    record {
      mechanism = u.mechanism;
      strength = u.strength;
      interval-some = u.interval-some;
      interval_most = u.interval_most;
      counter-some = some;
      counter_most = most;
      fresh = u.fresh;
      serial-some = u.serial-some;
      serial_most = u.serial_most;
      first = field-standing s.mechanism st.first u.mechanism sized.first;
      second = field-standing s.mechanism st.second u.mechanism sized.second;
    }

-- the state in a used slot
sized_state : (m : Mechanism) (g : Generator) → length g.first ≡ 55 → length g.second ≡ 55 → Sized (state_bytes sha256 m) (state_of m g)
unfolding state_of
sized_state HMAC_DRBG g a b =
    record { first = length-take-le 32 g.first (omega arith); second = length-take-le 32 g.second (omega arith) }
sized_state Hash_DRBG g a b = record { first = a; second = b }

pub sized_in : (last : ℕ) (s : Slot) → Used last s → Sized (state_bytes sha256 (mechanism_in s)) (state_in s)
sized_in last s u = sized_state (mechanism_in s) (generator_of s) u.first.bytes u.second.bytes

one_of_four : (strength : ℕ) →
    let r = rounded strength in
    (eqb r 112 || eqb r 128 || eqb r 192 || eqb r 256) ≡ true
one_of_four = of_four (λ r. (eqb r 112 || eqb r 128 || eqb r 192 || eqb r 256) ≡ true) refl refl refl refl

flag_most : (fresh : Bool) → cond fresh 1 0 ≤ 1
flag_most true = lit≤ tt
flag_most false = lit≤ tt

-- a new generator's slot
pub used_new : (mechanism strength interval : ℕ) (fresh : Bool) (serial : ℕ) (st : State) → (mechanism ≡ 1) ⊎ (mechanism ≡ 2)
    → 1 ≤ interval → interval ≤ 2 ^ 48 → 1 ≤ serial → Sized (state_bytes sha256 (mechanism_of mechanism)) st → st.counter ≡ 1
    → Used serial (new_slot mechanism (rounded strength) interval fresh serial (standing st))
unfolding standing
used_new mechanism strength interval fresh serial st kind some most next sized one =
    record {
      mechanism = kind;
      strength = one_of_four strength;
      interval-some = some;
      interval_most = most;
      counter-some = omega (arith, one);
      counter_most = omega (arith, one);
      fresh = flag_most fresh;
      serial-some = next;
      serial_most = le_refl serial;
      first = field-standing mechanism st.first kind sized.first;
      second = field-standing mechanism st.second kind sized.second;
    }
