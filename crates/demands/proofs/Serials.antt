-- In every table reached from the fresh one two slots in use have different serials: the handle of each was given out on the way, and the
-- serials of the handles given out only rise. Assumes nothing.
use mathlib.Core.Path.{◌≡◌, refl, sym, ap, ◌∙◌}
use mathlib.Core.Bool.{true, false≢true}
use mathlib.Core.Logic.{⊎_elim}
use mathlib.Core.List.{List}
use Prim.Native.Nat.{ℕ, ◌/◌, ◌%◌, ◌<◌}
use native.Mathlib.Omega.{arith}
use Rattle.slots.specs.Layout.{Table, slot_at, fresh_table}
use Rattle.slots.specs.Handle.{handle_of, in_use, names}
use Rattle.slots.proofs.Handles.{names_by, names_fresh, handle-slot, handle-serial}
use Rattle.table.specs.Calls.{Call}
use Rattle.demands.specs.Calls.{after_all}
use Rattle.demands.specs.Handles.{issued, Listed, here, there, Rising, SerialsApart}
use Rattle.demands.specs.Handles as H
use Rattle.demands.proofs.Handles.{named-issued, serials_rise, above}

less_not : {a b : ℕ} → a < b → a ≡ b → ⊥
less_not h e = omega arith

-- of rising handles two with one serial are one
one-serial : {n g h : ℕ} {hs : List ℕ} → Rising n hs → Listed g hs → Listed h hs → g / 16 ≡ h / 16 → g ≡ h
one-serial H.none k l e = elim k [ ]
one-serial (H.more less r) here here e = refl
one-serial (H.more less r) here (there l) e = absurd (less_not (above r l) e)
one-serial (H.more less r) (there k) here e = absurd (less_not (above r k) (sym e))
one-serial (H.more less r) (there k) (there l) e = one-serial r k l e

-- a slot in use is named by the handle of its serial
slot-named : (t : Table) (i : ℕ) → i < 16 → in_use (slot_at t i) ≡ true → names t (handle_of (slot_at t i).serial i) ≡ true
slot-named t i below used =
    let k : ℕ = (slot_at t i).serial in
    let at : handle_of k i % 16 ≡ i = handle-slot k i below in
    names_by t (handle_of k i) (ap (λ j. in_use (slot_at t j)) at ∙ used)
    (ap (λ j. (slot_at t j).serial) at ∙ sym (handle-serial k i below))

module _ (cs : List Call) where
  issued-there : (h : ℕ) → names (after_all fresh_table cs) h ≡ true → Listed h (issued fresh_table cs)
  issued-there h is = ⊎_elim (λ l. l) (λ was. absurd (false≢true (sym (names_fresh h) ∙ was))) (named-issued h fresh_table cs is)

  pub serials_apart : SerialsApart (after_all fresh_table cs)
  serials_apart i j lo hi used-i used-j same =
      let t = after_all fresh_table cs in
      let a : ℕ = (slot_at t i).serial in
      let b : ℕ = (slot_at t j).serial in
      let serials : handle_of a i / 16 ≡ handle_of b j / 16 = omega (arith, handle-serial a i lo, handle-serial b j hi, same) in
      let one : handle_of a i ≡ handle_of b j =
      one-serial (serials_rise fresh_table cs) (issued-there (handle_of a i) (slot-named t i lo used-i))
      (issued-there (handle_of b j) (slot-named t j hi used-j)) serials in
      sym (handle-slot a i lo) ∙ ap (λ h. h % 16) one ∙ handle-slot b j hi
