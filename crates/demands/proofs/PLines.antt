-- Document 01, 'Both sides of each edge': its table of P lines holds. Each row follows from one equation between computed numbers (the
-- closed forms, the rounded strength, an answer on the fresh table), so that one computation proves them all and a new row needs no new
-- proof. Assumes nothing.
use mathlib.Core.Path.{◌≡◌, refl, sym, ap, ap₂, ◌∙◌}
use mathlib.Core.Bool.{Bool, true, false, not, ◌&&◌, cond}
use mathlib.Core.Logic.{◌⊎◌, inl, inr}
use mathlib.Core.List.{List, [], ◌∷◌, map}
use Prim.Native.Nat.{ℕ, ◌+◌, ◌-◌, ◌/◌}
use native.Mathlib.Omega.{arith}
use lib.Dec.{eqb, ltb, lit<}
use lib.ListN.{length, get_or, drop}
use Rattle.standard.specs.Strings.{number_of, bytes_of, ceiling}
use Rattle.standard.specs.HashDrbg as HashDrbg
use Rattle.standard.specs.Sha256.{sha256}
use Rattle.standard.specs.Blocks.{hash_count, update_count, open_count, draw_count}
use Rattle.standard.proofs.Counts.{hash-blocks, update-blocks, opening-blocks, draw-blocks}
use Rattle.slots.specs.Layout.{slot_at, last_serial, fresh_table}
use Rattle.slots.specs.Sound.{sound, sound_slots, sound_slot, free_sound, all_zero}
use Rattle.slots.specs.Handle.{handle_of, names, look_up, lowest_free}
use Rattle.slots.specs.declared.slot.Slot.{Slot}
use Rattle.slots.proofs.Soundness.{sound-fresh}
use Rattle.slots.proofs.Handles.{names_fresh}
use Rattle.reasons.specs.Reasons.{Reasons, ◌when◌else◌, first_of, decided}
use Rattle.reasons.specs.Checks.{rounded, open_reasons, close_reasons}
use Rattle.table.specs.Calls.{reply, opens, closes, close}
use Rattle.reasons.proofs.FirstReason.{first-is}
use Rattle.demands.specs.Calls.{number}
use Rattle.demands.proofs.Answered.{number-first, fresh-answered}
use Rattle.demands.proofs.Handles.{unnamed_2}
use Rattle.demands.proofs.Standard.{open_standard}
use Rattle.demands.specs.PLines.{Row, hash_of◌takes◌, update_with◌takes◌, ◌draw_of◌takes◌, ◌open_with◌takes◌, V_of◌plus◌is◌}
use Rattle.demands.specs.PLines.{strength◌gives◌, strength◌refused, on_a_fresh_table◌is_answered◌, the_first_handle_is◌, Holds, table}
use Rattle.demands.specs.PLines.{All, none, more}

-- what the reasons say of an opening on the fresh table
decides : (asked entropy nonce mechanism : ℕ) → ℕ
decides asked entropy nonce mechanism = first_of (open_reasons true mechanism asked 1 entropy nonce 0 0 0)

-- the two sides of a row
computed : Row → List ℕ
computed (hash_of n takes k) = hash_count sha256 n ∷ []
computed (update_with n takes k) = update_count sha256 n ∷ []
computed (mechanism draw_of n takes k) = draw_count sha256 mechanism n 0 ∷ []
computed (mechanism open_with n takes k) = open_count sha256 mechanism n ∷ []
computed (V_of v plus n is sum) = HashDrbg.stepped sha256 v n
computed (strength asked gives given) =
    rounded asked ∷ decides asked (given / 8) (given / 16) 1 ∷ decides asked (given / 8) (given / 16) 2
    ∷ decides asked (given / 8) (given / 16 - 1) 1 ∷ decides asked (given / 8) (given / 16 - 1) 2 ∷ []
computed (strength asked refused) = cond (ltb 256 asked) 4 0 ∷ []
computed (on_a_fresh_table h is_answered k) = number fresh_table (closes h) ∷ []
computed (the_first_handle_is h) = handle_of (last_serial fresh_table + 1) (lowest_free fresh_table 0 16) ∷ []

stated : Row → List ℕ
stated (hash_of n takes k) = k ∷ []
stated (update_with n takes k) = k ∷ []
stated (mechanism draw_of n takes k) = k ∷ []
stated (mechanism open_with n takes k) = k ∷ []
stated (V_of v plus n is sum) = sum
stated (strength asked gives given) = given ∷ 0 ∷ 0 ∷ 9 ∷ 9 ∷ []
stated (strength asked refused) = 4 ∷ []
stated (on_a_fresh_table h is_answered k) = k ∷ []
stated (the_first_handle_is h) = h ∷ []

place : ℕ → List ℕ → ℕ
place i s = get_or s i 0

-- what follows from a row's own equation holds of every row where all the equations do
all_by : {A : Type 0} {P : A → Type 0} (f g : A → List ℕ) → ((a : A) → f a ≡ g a → P a) → (l : List A) → map f l ≡ map g l → All P l
all_by f g h [] e = none
all_by f g h (a ∷ l) e = more (h a (ap (λ x. get_or x 0 []) e)) (all_by f g h l (ap (drop 1) e))

third : (rest : Reasons) {x y z : Bool} → x ≡ true → y ≡ false → z ≡ true
    → first_of (1 when not x else 3 when y else 4 when z else rest) ≡ 4
unfolding first_of
third rest {x} {y} {z} a b c =
    ap (λ x. cond (not x) 1 (cond y 3 (cond z 4 (first_of rest)))) a ∙ ap₂ (λ y z. cond y 3 (cond z 4 (first_of rest))) b c

known : {m : ℕ} → (m ≡ 1) ⊎ (m ≡ 2) → (not (eqb m 1) && not (eqb m 2)) ≡ false
known (inl e) = ap (λ m. not (eqb m 1) && not (eqb m 2)) e
known (inr e) = ap (λ m. not (eqb m 1) && not (eqb m 2)) e

is_true : (b : Bool) → ◌≡◌ {A = ℕ} (cond b 4 0) 4 → b ≡ true
is_true true e = refl
is_true false e = let never : ◌≡◌ {A = ℕ} 0 4 = e in absurd (omega arith)

either : (f : ℕ → ℕ) {k m : ℕ} → f 1 ≡ k → f 2 ≡ k → (m ≡ 1) ⊎ (m ≡ 2) → f m ≡ k
either f one two (inl e) = ap f e ∙ one
either f one two (inr e) = ap f e ∙ two

one_less : (n k : ℕ) → n + 1 ≡ k → n ≡ k - 1
one_less n k h = omega (arith, h)

holds : (r : Row) → computed r ≡ stated r → Holds r
unfolding place computed stated decides open_reasons
holds (hash_of n takes k) same = λ m h. hash-blocks sha256 (lit< tt) m ∙ ap (hash_count sha256) h ∙ ap (place 0) same
holds (update_with n takes k) same = λ d u h ready. update-blocks sha256 (lit< tt) d u ready ∙ ap (update_count sha256) h ∙
    ap (place 0) same
holds (mechanism draw_of n takes k) same = λ s sized. draw-blocks sha256 (lit< tt) mechanism s n [] sized ∙ ap (place 0) same
holds (mechanism open_with n takes k) same =
    λ e n p h. opening-blocks sha256 (lit< tt) mechanism e n p ∙ ap (open_count sha256 mechanism) h ∙ ap (place 0) same
holds (V_of v plus n is sum) same = same
holds (strength asked gives given) same = (
  λ t m i f e n p so. ap (λ (s : Slot). s.strength) (open_standard t m asked i f e n p so).slot ∙ ap (place 0) same,
  λ m kind e n es.
      let decided : ℕ → ℕ → ℕ = decides asked (given / 8) in (
        λ ns. fresh-answered m asked e n es ns (either (decided (given / 16)) (ap (place 1) same) (ap (place 2) same) kind),
        λ ns.
            fresh-answered m asked e n es (one_less (length n) (given / 16) ns)
            (either (decided (given / 16 - 1)) (ap (place 3) same) (ap (place 4) same) kind),
      ),
)
holds (strength asked refused) same =
    λ t m i f e n p whole kind.
    number-first t (opens m asked i f e n p)
    (first-is _ 3 (third _ whole (known kind) (is_true (ltb 256 asked) (ap (place 0) same))))
holds (on_a_fresh_table h is_answered k) same =
    λ c under.
    unnamed_2 fresh_table h sound-fresh (names_fresh h) c under
    ∙ sym (unnamed_2 fresh_table h sound-fresh (names_fresh h) (closes h) close) ∙ ap (place 0) same
holds (the_first_handle_is h) same =
    λ m s i f e n p so. (open_standard fresh_table m s i f e n p so).handle ∙ ap (place 0) same

-- lines 1 to 8 hold
pub table-holds : All Holds table
unfolding table computed stated decides ceiling HashDrbg.stepped number_of bytes_of rounded first_of open_reasons reply
    decided close_reasons
    look_up names
    sound sound_slots sound_slot free_sound all_zero slot_at last_serial fresh_table lowest_free
table-holds = all_by computed stated holds table refl
