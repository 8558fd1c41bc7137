-- Demand 3: sequences alike in kinds, handles, settings and lengths are told the same numbers, values and block counts, whatever the
-- bytes: reasons ask for numbers and lengths alone, and counts are closed forms of lengths. Assumes of two tables that they are sound
-- and alike; the fresh one is.
use mathlib.Core.Path.{◌≡◌, refl, sym, ap, ap₂, subst, ◌∙◌}
use mathlib.Core.Bool.{Bool, true, not, ◌&&◌, cond}
use mathlib.Core.List.{List, ◌∷◌, ◌++◌}
use Prim.Native.Nat.{ℕ, zero, suc, ◌+◌, ◌-◌, ◌/◌, ◌%◌, ◌<◌}
use native.Mathlib.Decide.{ℕ_discrete}
use native.Mathlib.Omega.{arith}
use lib.Dec.{eqb, lit<}
use lib.ListN.{length, length-append}
use Rattle.standard.specs.State.{State}
use Rattle.standard.specs.Sha256.{sha256}
use Rattle.standard.proofs.Lengths.{counter-opening, counter-reseeding, counter-draw, counter-fresh_draw}
use Rattle.standard.specs.Blocks.{open_count, reseed_count, draw_count, fresh_draw_count}
use Rattle.standard.proofs.Counts.{opening-blocks, reseeding-blocks, draw-blocks, fresh_draw-blocks}
use Rattle.drbg_shared.specs.Generator.{standing, served, filled}
use Rattle.drbg.specs.Mechanism.{mechanism_of}
use Rattle.slots.specs.Layout.{free_slot, slot_at, with_slot, last_serial, with_last_serial, fresh_table, Table}
use Rattle.slots.specs.Sound.{sound}
use Rattle.slots.specs.Handle.{handle_of, slot_of, names, look_up, named, lowest_free}
use Rattle.slots.specs.declared.slot.Slot.{Slot}
use Rattle.slots.proofs.Slots.{slot_at-same, slot_at_other, last_serial-with_slot}
use Rattle.slots.proofs.Soundness.{sound-fresh, sound_has}
use Rattle.slots.proofs.Handles.{named-is, slot_below, lowest_most}
use Rattle.reasons.specs.Reasons.{NoneHolds, First}
use Rattle.reasons.specs.Checks.{rounded}
use Rattle.table.specs.Answers.{Reply, stepped, installed, with_generator, new_slot, generator_of}
use Rattle.table.specs.Served.{mechanism_in, state_in}
use Rattle.reasons.proofs.Decisions.{refusing, serving}
use Rattle.reasons.proofs.Allowed.{may_open, may_reseed, may_draw, may_draw-fresh}
use Rattle.table.specs.OnBytes.{Told}
use Rattle.table.specs.Calls.{Call, reasons_of, refusal, service}
use Rattle.table.proofs.Exits.{first-refuses, none-refuses}
use Rattle.demands.specs.Calls.{answer, after}
use Rattle.demands.specs.Alike.{Alike, openings, reseedings, drawings, fresh_drawings, closings, inquiries, AllAlike, none, more}
use Rattle.demands.specs.Alike.{SameNumbers, AlikeTables, SameOutcome, told}
use Rattle.demands.proofs.Outcome.{Outcome, outcome}
use Rattle.demands.proofs.Moves.{sound-after, counter-held, below_16}
use Rattle.demands.proofs.Standard.{sized_by}

lengths : (a b c d : List ℕ) → length a ≡ length c → length b ≡ length d → length (a ++ b) ≡ length (c ++ d)
lengths a b c d h l = length-append a b ∙ ap₂ ◌+◌ h l ∙ sym (length-append c d)

pub told_is : {n b v n' b' v' : ℕ} → n ≡ n' → b ≡ b' → v ≡ v'
    → ◌≡◌ {A = Told} (record { number = n; blocks = b; value = v }) (record { number = n'; blocks = b'; value = v' })
told_is p q r = λ i. record { number = p i; blocks = q i; value = r i }

same_step : {s u : Slot} (a b : State) → SameNumbers s u → a.counter ≡ b.counter
    → SameNumbers (with_generator s (standing a)) (with_generator u (standing b))
unfolding standing
same_step a b same counter =
    record {
      mechanism = same.mechanism;
      strength = same.strength;
      interval = same.interval;
      counter = counter;
      fresh = same.fresh;
      serial = same.serial;
    }

module _ {t u : Table} (tables : AlikeTables t u) where
  lowest_alike : (from n : ℕ) → lowest_free t from n ≡ lowest_free u from n
  unfolding lowest_free
  lowest_alike from zero = refl
  lowest_alike from (suc n) =
      ap₂ (λ b k. cond b k from) (ap (λ m. not (eqb m 0)) (tables.slots from).mechanism) (lowest_alike (from + 1) n)

  named_alike : (h : ℕ) → named (look_up t h) ≡ named (look_up u h)
  unfolding names
  named_alike h =
      let same = tables.slots (h % 16) in
      named-is t h
      ∙ ap₂ (λ m s. not (eqb m 0) && eqb s (h / 16)) same.mechanism same.serial
      ∙ sym (named-is u h)

module _ {t u : Table} (tables : AlikeTables t u) (t-sound : sound t ≡ true) (u-sound : sound u ≡ true) where
  reasons_alike : {c d : Call} → Alike c d → reasons_of t c ≡ reasons_of u d
  reasons_alike (openings e n p) = cc (lowest_alike tables 0 16)
  reasons_alike (reseedings {handle} {a = a} {a' = a'} e eq) =
      let same = tables.slots (handle % 16) in
      let lengths : length a ≡ length a' = omega arith in
      cc (named_alike tables handle)
  reasons_alike (drawings {handle} o a) = let same = tables.slots (handle % 16) in cc (named_alike tables handle)
  reasons_alike (fresh_drawings {handle} o e a) = let same = tables.slots (handle % 16) in cc (named_alike tables handle)
  reasons_alike (closings {handle}) = cc (named_alike tables handle)
  reasons_alike (inquiries {handle}) = cc (named_alike tables handle)

  alike_with : (i k : ℕ) (s v : Slot) → i ≡ k → i < 16 → SameNumbers s v → AlikeTables (with_slot t i s) (with_slot u k v)
  alike_with i k s v here room same =
      record {
        last = last_serial-with_slot t i s ∙ tables.last ∙ sym (last_serial-with_slot u k v);
        slots = λ j. go j (ℕ_discrete j i);
      }
    where
      go : (j : ℕ) → Dec (j ≡ i) → SameNumbers (slot_at (with_slot t i s) j) (slot_at (with_slot u k v) j)
      go j (yes at) =
          let first : slot_at (with_slot t i s) j ≡ s = ap (slot_at (with_slot t i s)) at ∙
          slot_at-same t i s (sound_has t t-sound i room) in
          let second : slot_at (with_slot u k v) j ≡ v =
          ap (slot_at (with_slot u k v)) (at ∙ here)
          ∙ slot_at-same u k v (sound_has u u-sound k (subst (λ x. x < 16) here room)) in
          subst (λ x. SameNumbers x (slot_at (with_slot u k v) j)) (sym first) (subst (SameNumbers s) (sym second) same)
      go j (no other) =
          subst (λ x. SameNumbers x (slot_at (with_slot u k v) j)) (sym (slot_at_other t i s j other))
          (subst (SameNumbers (slot_at t j)) (sym (slot_at_other u k v j (λ at. other (at ∙ sym here)))) (tables.slots j))

same_itself : (s : Slot) → SameNumbers s s
same_itself s = record { mechanism = refl; strength = refl; interval = refl; counter = refl; fresh = refl; serial = refl }

same_free : SameNumbers free_slot free_slot
same_free = same_itself free_slot

same_new : (m s i : ℕ) (f : Bool) {j k : ℕ} (a b : State) → j ≡ k → a.counter ≡ b.counter
    → SameNumbers (new_slot m (rounded s) i f j (standing a)) (new_slot m (rounded s) i f k (standing b))
unfolding standing
same_new m s i f a b serials counters =
    record { mechanism = refl; strength = refl; interval = refl; counter = counters; fresh = refl; serial = serials }

alike_later : {t u : Table} {j k : ℕ} → j ≡ k → AlikeTables t u → AlikeTables (with_last_serial t j) (with_last_serial u k)
unfolding with_last_serial slot_at last_serial
alike_later next tables = record { last = next; slots = tables.slots }

module _ {t u : Table} (tables : AlikeTables t u) (t-sound : sound t ≡ true) (u-sound : sound u ≡ true) where
  mechanisms : (h : ℕ) → mechanism_in (slot_of t h) ≡ mechanism_in (slot_of u h)
  mechanisms h = ap mechanism_of (tables.slots (h % 16)).mechanism

  step_alike : (h : ℕ) (a b : State) (j k : ℕ) → a.counter ≡ b.counter → j ≡ k
      → SameOutcome (stepped t (h % 16) (record { generator = standing a; blocks = j }))
      (stepped u (h % 16) (record { generator = standing b; blocks = k }))
  unfolding stepped
  step_alike h a b j k counters blocks =
      record {
        number = refl;
        blocks = blocks;
        value = refl;
        tables =
            alike_with tables t-sound u-sound (h % 16) (h % 16) _ _ refl (slot_below t h)
            (same_step a b (tables.slots (h % 16)) counters);
      }

  served_alike : {c d : Call} → Alike c d → NoneHolds (reasons_of t c) → NoneHolds (reasons_of u d)
      → SameOutcome (service t c).answer (service u d).answer
  unfolding installed served filled
  served_alike (openings {mechanism = m} {strength = s} {interval = i} {fresh = f} {e} {e'} {n} {n'} {p} {p'} es ns ps) ok ok' =
      let here = lowest_alike tables 0 16 in
      let next : last_serial t + 1 ≡ last_serial u + 1 = ap (λ k. k + 1) tables.last in
      record {
        number = refl;
        blocks =
            opening-blocks sha256 (lit< tt) (mechanism_of m) e n p
            ∙ ap (open_count sha256 (mechanism_of m)) (lengths e (n ++ p) e' (n' ++ p') es (lengths n p n' p' ns ps))
            ∙ sym (opening-blocks sha256 (lit< tt) (mechanism_of m) e' n' p');
        value = ap₂ handle_of next here;
        tables =
            alike_later next
            (alike_with tables t-sound u-sound (lowest_free t 0 16) (lowest_free u 0 16) _ _ here
            (below_16 (lowest_most t 0 16) (may_open ok).slot_free)
            (same_new m s i f _ _ next
            (counter-opening sha256 (mechanism_of m) e n p ∙ sym (counter-opening sha256 (mechanism_of m) e' n' p'))));
      }
  served_alike (reseedings {handle = h} {e} {e'} {a} {a'} es eq) ok ok' =
      let s = slot_of t h in
      let v = slot_of u h in
      let may = may_reseed ok in
      let may' = may_reseed ok' in
      step_alike h _ _ _ _
      (counter-reseeding sha256 (mechanism_in s) (state_in s) e a ∙ sym (counter-reseeding sha256 (mechanism_in v) (state_in v) e' a'))
      (reseeding-blocks sha256 (lit< tt) (mechanism_in s) (state_in s) e a (sized_by t h may.sound_so may.named_so)
      ∙ ap₂ (reseed_count sha256) (mechanisms h) (lengths e a e' a' es eq)
      ∙ sym (reseeding-blocks sha256 (lit< tt) (mechanism_in v) (state_in v) e' a' (sized_by u h may'.sound_so may'.named_so)))
  served_alike (drawings {handle = h} {strength = k} {o} {o'} {a} {a'} os eq) ok ok' =
      let s = slot_of t h in
      let v = slot_of u h in
      let may = may_draw ok in
      let may' = may_draw ok' in
      step_alike h _ _ _ _
      (counter-draw sha256 (mechanism_in s) (state_in s) (length o) a
      ∙ ap (λ n. n + 1)
      (counter-held (mechanism_in s) (generator_of s) ∙ (tables.slots (h % 16)).counter ∙
      sym (counter-held (mechanism_in v) (generator_of v)))
      ∙ sym (counter-draw sha256 (mechanism_in v) (state_in v) (length o') a'))
      (draw-blocks sha256 (lit< tt) (mechanism_in s) (state_in s) (length o) a (sized_by t h may.sound_so may.named_so)
      ∙ ap (λ m. draw_count sha256 m (length o) (length a)) (mechanisms h) ∙ ap₂ (draw_count sha256 (mechanism_in v)) os eq
      ∙ sym (draw-blocks sha256 (lit< tt) (mechanism_in v) (state_in v) (length o') a' (sized_by u h may'.sound_so may'.named_so)))
  served_alike (fresh_drawings {handle = h} {strength = k} {o} {o'} {e} {e'} {a} {a'} os es eq) ok ok' =
      let s = slot_of t h in
      let v = slot_of u h in
      let may = may_draw-fresh ok in
      let may' = may_draw-fresh ok' in
      step_alike h _ _ _ _
      (counter-fresh_draw sha256 (mechanism_in s) (state_in s) (length o) e a
      ∙ sym (counter-fresh_draw sha256 (mechanism_in v) (state_in v) (length o') e' a'))
      (fresh_draw-blocks sha256 (lit< tt) (mechanism_in s) (state_in s) (length o) e a (sized_by t h may.sound_so may.named_so)
      ∙ ap (λ m. fresh_draw_count sha256 m (length o) (length (e ++ a))) (mechanisms h)
      ∙ ap₂ (fresh_draw_count sha256 (mechanism_in v)) os (lengths e a e' a' es eq)
      ∙ sym (fresh_draw-blocks sha256 (lit< tt) (mechanism_in v) (state_in v) (length o') e' a'
      (sized_by u h may'.sound_so may'.named_so)))
  served_alike (closings {handle = h}) ok ok' =
      record {
        number = refl;
        blocks = refl;
        value = refl;
        tables = alike_with tables t-sound u-sound (h % 16) (h % 16) free_slot free_slot refl (slot_below t h) same_free;
      }
  served_alike (inquiries {handle = h}) ok ok' =
      let same = tables.slots (h % 16) in
      record { number = refl; blocks = refl; value = ap₂ (λ i c. i + 1 - c) same.interval same.counter; tables = tables }

  -- two calls alike
  pub call_alike : {c d : Call} → Alike c d → SameOutcome (answer t c) (answer u d)
  call_alike {c} {d} alike = go (reasons_alike tables t-sound u-sound alike) (outcome t c)
    where
      go : {r : Reply} → reasons_of t c ≡ reasons_of u d → Outcome t c r → SameOutcome r.answer (answer u d)
      go same (refusing n first) =
          subst (λ (q : Reply). SameOutcome (refusal t c (suc n)).answer q.answer)
          (sym (first-refuses u d (subst (First (suc n)) same first)))
          (record { number = refl; blocks = refl; value = refl; tables = tables })
      go same (serving ok) =
          let ok' = subst NoneHolds same ok in
          subst (λ (q : Reply). SameOutcome (service t c).answer q.answer) (sym (none-refuses u d ok')) (served_alike alike ok ok')

-- the lists of numbers, values and counts of two sequences alike are equal
pub runs_alike : {t u : Table} {cs ds : List Call} → AlikeTables t u → sound t ≡ true → sound u ≡ true → AllAlike cs ds
    → told t cs ≡ told u ds
runs_alike tables t-sound u-sound none = refl
runs_alike {t} {u} tables t-sound u-sound (more {c} {d} alike rest) =
    let same = call_alike tables t-sound u-sound alike in
    ap₂ ◌∷◌ (told_is (omega (arith, same.number)) (omega (arith, same.blocks)) (omega (arith, same.value)))
    (runs_alike {t = after t c} {u = after u d} same.tables (sound-after t c t-sound) (sound-after u d u-sound) rest)

pub runs_from_fresh_alike : {cs ds : List Call} → AllAlike cs ds → told fresh_table cs ≡ told fresh_table ds
runs_from_fresh_alike = runs_alike (record { last = refl; slots = λ i. same_itself (slot_at fresh_table i) }) sound-fresh sound-fresh
