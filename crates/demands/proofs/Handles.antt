-- Demand 2, handles: a closed handle is answered 2 ever after, one never issued is answered 2, and no two openings get the same: serials
-- only rise, and a handle names its slot by its serial. Assumes nothing.
use mathlib.Core.Path.{◌≡◌, refl, sym, ap, ap₂, subst, ◌∙◌}
use mathlib.Core.Bool.{Bool, true, false, false≢true}
use mathlib.Core.Logic.{◌⊎◌, inl, inr, ⊎_elim}
use mathlib.Core.List.{List, [], ◌∷◌, ◌++◌}
use Prim.Native.Nat.{ℕ, ◌+◌, ◌/◌, ◌%◌, ◌≤◌, ◌<◌}
use native.Mathlib.Nat.{le_refl}
use native.Mathlib.Decide.{ℕ_discrete}
use native.Mathlib.Omega.{arith}
use Rattle.slots.specs.Layout.{free_slot, slot_at, with_slot, last_serial, fresh_table, Table}
use Rattle.slots.specs.Sound.{sound}
use Rattle.slots.specs.Handle.{handle_of, in_use, slot_of, names, named, lowest_free}
use Rattle.slots.specs.declared.slot.Slot.{Slot}
use Rattle.slots.proofs.Slots.{slot_at-same, slot_at_other, last_serial-with_slot, slot_at-with_last_serial, last_serial-with_last_serial}
use Rattle.slots.proofs.Soundness.{sound_has}
use Rattle.slots.proofs.Handles.{named-is, names-used, names-serial, names_fresh, sound-named, slot_below, handle-serial, handle-parts}
use Rattle.table.specs.Calls.{Call, closes, reasons_of, Under}
use Rattle.reasons.proofs.FirstReason.{first-is}
use Rattle.table.proofs.Exits.{first_unnamed}
use Rattle.reasons.proofs.Allowed.{may_close}
use Rattle.demands.specs.Calls.{answer, number, after, after_all}
use Rattle.demands.specs.Handles.{issued_by, issued, Listed, here, there, Distinct, Rising}
use Rattle.demands.specs.Handles as H
use Rattle.demands.proofs.Answered.{number-first, served-none}
use Rattle.demands.proofs.Kept.{closing_frees}
use Rattle.demands.proofs.Moves.{Moves, stays, adds, steps, ends, moved, sound-after, sound-after_all, sound_reached}

-- a handle that names nothing is answered 2
pub unnamed_2 : (t : Table) (h : ℕ) → sound t ≡ true → names t h ≡ false → (c : Call) → Under h c → number t c ≡ 2
unnamed_2 t h whole none c under =
    number-first t c (first-is (reasons_of t c) 1 (sym (first_unnamed t c h under whole (named-is t h ∙ none))))

pub names_same : (t u : Table) (h : ℕ) → slot_of u h ≡ slot_of t h → names u h ≡ names t h
unfolding names
names_same t u h same = rw same

false_unless : (b : Bool) → (b ≡ true → ⊥) → b ≡ false
false_unless true f = absurd (f refl)
false_unless false f = refl

pub same_parts : (g h : ℕ) → g % 16 ≡ h % 16 → g / 16 ≡ h / 16 → g ≡ h
same_parts g h slot serial = omega arith

-- a handle that a table names after a call was given out by it, or named before
pub named-moved : {t u : Table} {hs : List ℕ} (h : ℕ) → Moves t hs u → names u h ≡ true → Listed h hs ⊎ (names t h ≡ true)
named-moved h stays is = inr is
named-moved {t} {u} h (adds s whole room used serial) is = go (ℕ_discrete (h % 16) i)
  where
    i : ℕ
    i = lowest_free t 0 16

    go : Dec (h % 16 ≡ i) → Listed h (handle_of (last_serial t + 1) i ∷ []) ⊎ (names t h ≡ true)
    go (yes at) =
        let new : slot_of u h ≡ s =
        slot_at-with_last_serial _ _ (h % 16) ∙ ap (slot_at (with_slot t i s)) at ∙ slot_at-same t i s (sound_has t whole i room) in
        let serial-is : h / 16 ≡ last_serial t + 1 = sym (names-serial u h is) ∙ ap (λ (s : Slot). s.serial) new ∙ serial in
        inl (subst (λ k. Listed h (k ∷ [])) (ap₂ handle_of serial-is at ∙
        refl) (subst (λ k. Listed h (k ∷ [])) (sym (handle-parts h)) here))
    go (no other) = inr (sym (names_same t u h (slot_at-with_last_serial _ _ (h % 16) ∙ slot_at_other t i s (h % 16) other)) ∙ is)
named-moved {t} {u} h (steps handle s whole named used serial) is = go (ℕ_discrete (h % 16) (handle % 16))
  where
    go : Dec (h % 16 ≡ handle % 16) → Listed h [] ⊎ (names t h ≡ true)
    go (yes at) =
        let new : slot_of u h ≡ s =
        ap (slot_at (with_slot t (handle % 16) s)) at
        ∙ slot_at-same t (handle % 16) s (sound_has t whole (handle % 16) (slot_below t handle)) in
        let serial-is : h / 16 ≡ handle / 16 =
        sym (names-serial u h is) ∙ ap (λ (s : Slot). s.serial) new ∙ serial ∙ names-serial t handle named in
        inr (subst (λ k. names t k ≡ true) (sym (same_parts h handle at serial-is)) named)
    go (no other) = inr (sym (names_same t u h (slot_at_other t (handle % 16) s (h % 16) other)) ∙ is)
named-moved {t} {u} h (ends handle whole named) is = go (ℕ_discrete (h % 16) (handle % 16))
  where
    go : Dec (h % 16 ≡ handle % 16) → Listed h [] ⊎ (names t h ≡ true)
    go (yes at) =
        let new : slot_of u h ≡ free_slot =
        ap (slot_at (with_slot t (handle % 16) free_slot)) at
        ∙ slot_at-same t (handle % 16) free_slot (sound_has t whole (handle % 16) (slot_below t handle)) in
        absurd (false≢true (sym (ap in_use new) ∙ names-used u h is))
    go (no other) = inr (sym (names_same t u h (slot_at_other t (handle % 16) free_slot (h % 16) other)) ∙ is)

-- serials only grow
pub last-moved : {t u : Table} {hs : List ℕ} → Moves t hs u → last_serial t ≤ last_serial u
last-moved {t} stays = le_refl (last_serial t)
last-moved {t} (adds s whole room used serial) = rw last_serial-with_last_serial (omega arith)
last-moved {t} (steps handle s whole named used serial) = rw last_serial-with_slot (le_refl (last_serial t))
last-moved {t} (ends handle whole named) = rw last_serial-with_slot (le_refl (last_serial t))

-- a handle given out has the next serial
pub issued-serial : {t u : Table} {hs : List ℕ} (h : ℕ) → Moves t hs u → Listed h hs → h / 16 ≡ last_serial t + 1
issued-serial {t} h stays l = elim l [ ]
issued-serial {t} h (adds s whole room used serial) here = handle-serial (last_serial t + 1) (lowest_free t 0 16) room
issued-serial {t} h (adds s whole room used serial) (there l) = elim l [ ]
issued-serial {t} h (steps handle s whole named used serial) l = elim l [ ]
issued-serial {t} h (ends handle whole named) l = elim l [ ]

not-next : {k last : ℕ} → k ≤ last → k ≡ last + 1 → ⊥
not-next h l = omega arith

pub le_then : {a b c : ℕ} → a ≤ b → b ≤ c → a ≤ c
le_then h l = omega arith

module _ (h : ℕ) where
  -- a handle of a serial given before that names nothing never names anything again
  pub gone_after : (t : Table) (c : Call) → h / 16 ≤ last_serial t → names t h ≡ false → names (after t c) h ≡ false
  gone_after t c old none =
      false_unless (names (after t c) h)
      (λ is. ⊎_elim (λ l. not-next old (issued-serial h (moved t c) l)) (λ was. false≢true (sym none ∙ was)) (named-moved h (moved t c) is))

  pub gone : (t : Table) (cs : List Call) → h / 16 ≤ last_serial t → names t h ≡ false → names (after_all t cs) h ≡ false
  gone t [] old none = none
  gone t (c ∷ cs) old none = gone (after t c) cs (le_then old (last-moved (moved t c))) (gone_after t c old none)

  listed_first : (hs ks : List ℕ) → Listed h hs → Listed h (hs ++ ks)
  listed_first [] ks l = elim l [ ]
  listed_first (n ∷ hs) ks here = here
  listed_first (n ∷ hs) ks (there l) = there (listed_first hs ks l)

  listed_second : (hs ks : List ℕ) → Listed h ks → Listed h (hs ++ ks)
  listed_second [] ks l = l
  listed_second (n ∷ hs) ks l = there (listed_second hs ks l)

  -- a handle named in the end was issued on the way, or named at the beginning
  pub named-issued : (t : Table) (cs : List Call) → names (after_all t cs) h ≡ true → Listed h (issued t cs) ⊎ (names t h ≡ true)
  named-issued t [] is = inr is
  named-issued t (c ∷ cs) is =
      ⊎_elim (λ l. inl (listed_second (issued_by c (answer t c)) _ l))
      (λ was. ⊎_elim (λ l. inl (listed_first (issued_by c (answer t c)) _ l)) inr (named-moved h (moved t c) was))
      (named-issued (after t c) cs is)

-- a served close leaves nothing under its handle
pub closed_unnamed : (t : Table) (h : ℕ) → number t (closes h) ≡ 0 → names (after t (closes h)) h ≡ false
unfolding names
closed_unnamed t h served = rw (closing_frees t h served)

-- a handle that was closed is answered 2 ever after
pub closed_for_ever : (t : Table) (h : ℕ) → number t (closes h) ≡ 0 → (cs : List Call) (c : Call) → Under h c
    → number (after_all (after t (closes h)) cs) c ≡ 2
closed_for_ever t h served cs c under =
    let may = may_close (served-none t (closes h) served) in
    let named-before : names t h ≡ true = sym (named-is t h) ∙ may.named_so in
    let old : h / 16 ≤ last_serial t = rw (names-serial t h named-before) at (sound-named t h may.sound_so named-before).serial_most in
    let u = after t (closes h) in
    unnamed_2 (after_all u cs) h (sound-after_all u cs (sound-after t (closes h) may.sound_so))
    (gone h u cs (le_then old (last-moved (moved t (closes h)))) (closed_unnamed t h served)) c under

-- a handle never issued is answered 2
pub never_issued : (h : ℕ) (cs : List Call) → (Listed h (issued fresh_table cs) → ⊥) → (c : Call) → Under h c
    → number (after_all fresh_table cs) c ≡ 2
never_issued h cs never c under =
    unnamed_2 (after_all fresh_table cs) h (sound_reached cs)
    (false_unless (names (after_all fresh_table cs) h)
    (λ is. ⊎_elim never (λ was. false≢true (sym (names_fresh h) ∙ was)) (named-issued h fresh_table cs is)))
    c under

rise : {t u : Table} {hs rest : List ℕ} → Moves t hs u → Rising (last_serial u) rest → Rising (last_serial t) (hs ++ rest)
rise stays r = r
rise {t} {rest = rest} (adds s whole room used serial) r =
    let is : last_serial t + 1 ≡ handle_of (last_serial t + 1) (lowest_free t 0 16) / 16 = sym (handle-serial (last_serial t + 1) _ room) in
    H.more (subst (λ k. last_serial t < k) is (omega arith))
    (subst (λ k. Rising k rest) (last_serial-with_last_serial _ _ ∙ is) r)
rise {t} {rest = rest} (steps handle s whole named used serial) r = subst (λ k. Rising k rest) (last_serial-with_slot t _ s) r
rise {t} {rest = rest} (ends handle whole named) r = subst (λ k. Rising k rest) (last_serial-with_slot t _ free_slot) r

-- the serials of the handles given out grow
pub serials_rise : (t : Table) (cs : List Call) → Rising (last_serial t) (issued t cs)
serials_rise t [] = H.none
serials_rise t (c ∷ cs) = rise (moved t c) (serials_rise (after t c) cs)

lt-then : {a b c : ℕ} → a < b → b < c → a < c
lt-then h l = omega arith

pub above : {n h : ℕ} {hs : List ℕ} → Rising n hs → Listed h hs → n < h / 16
above H.none l = elim l [ ]
above (H.more less r) here = less
above (H.more less r) (there l) = lt-then less (above r l)

not_below_itself : {n : ℕ} → n < n → ⊥
not_below_itself h = omega arith

rising_distinct : {n : ℕ} {hs : List ℕ} → Rising n hs → Distinct hs
rising_distinct H.none = H.none
rising_distinct (H.more less r) = H.more (λ l. not_below_itself (above r l)) (rising_distinct r)

-- no two openings get the same handle
pub no_handle_twice : (t : Table) (cs : List Call) → Distinct (issued t cs)
no_handle_twice t cs = rising_distinct (serials_rise t cs)
