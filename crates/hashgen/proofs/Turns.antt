-- One turn more of Hashgen: its data, and its hash in the output. Assumes nothing.
use mathlib.Core.Path.{◌≡◌, sym, ap, ap₂, ◌∙◌}
use mathlib.Core.List.{List, [], ◌∷◌, ◌++◌}
use Prim.Native.Nat.{ℕ, ◌+◌, ◌-◌, ◌*◌, ◌≤◌, ◌<◌, min}
use native.Mathlib.Nat.{add-zero}
use native.Mathlib.Numerals.{add-one}
use native.Mathlib.Omega.{arith}
use lib.Dec.{lit<}
use lib.ListN.{length, take}
use lib.Seq.{paste, take_all, take-nil}
use Rattle.standard.specs.Strings.{bytes_of, number_of, ceiling}
use Rattle.standard.specs.Hash.{hash, digest, compressed}
use Rattle.standard.specs.HashDrbg.{stepped, hashgen, hashgen_turns}
use Rattle.standard.specs.Sha256.{sha256}
use Rattle.standard.proofs.Counts.{hashgen_turns-blocks}
use Rattle.standard.proofs.Lengths.{length-digest, length-hashgen_turns, length_data_hashgen_turns}
use Rattle.standard.proofs.Strings.{ceiling_unique}
use Rattle.drbg_shared.specs.Costs.{costing}
use Rattle.drbg_shared.proofs.Metered.{same_metered}
use Rattle.drbg_shared.proofs.Outputs.{stored_more}
use Rattle.drbg_shared.proofs.Short.{hash_of_one}
use Rattle.sums.specs.Limbs.{string_of, value_in, Marked}
use Rattle.sums.proofs.Carries.{one_more}
use Rattle.sums.proofs.Limbs.{length-value_in, value-behind}
use Rattle.hashgen.specs.Turns.{made, turn_data, turn_block, Ready, Filled, After}

module _ (v : List ℕ) (n : ℕ) where
  data_more : turn_data v (n + 1) ≡ stepped sha256 (turn_data v n) 1
  unfolding hashgen_turns
  data_more = rw add-one

  made_more : made v (n + 1) ≡ made v n ++ (hash sha256 (turn_data v n)).value
  unfolding hashgen_turns
  made_more = rw add-one

  pub ready-more : (limbs further : List ℕ)
      → string_of further ≡ bytes_of 56 (number_of (string_of limbs) + number_of (string_of (0 ∷ 0 ∷ 0 ∷ 0 ∷ 0 ∷ 0 ∷ 256 ∷ [])))
      → Ready v n limbs → Ready v (n + 1) further
  unfolding stepped
  ready-more limbs further sum ready =
      one_more (turn_data v n) (string_of limbs) (string_of further) ready sum ∙ ap (λ d. d ++ (128 ∷ [])) (sym data_more)

  -- one hash more in the output, as much of it as there is room for
  module _ (out new w : List ℕ) (w-is : w ≡ digest sha256 (compressed sha256 sha256.initial (turn_block v n))) (so_far : Filled v n out)
      (size : length new ≡ length out) where
    made-size : length (made v n) ≡ 32 * n
    made-size = length-hashgen_turns sha256 v n ∙ omega arith

    next : 32 * (n + 1) ≡ 32 * n + 32
    next = omega arith

    turn-made : made v (n + 1) ≡ made v n ++ w
    turn-made =
        made_more ∙
        ap (λ s. made v n ++ s)
        (ap (λ m. m.value) (hash_of_one (turn_data v n) (length_data_hashgen_turns sha256 v n so_far.long)) ∙ sym w-is)

    pub filled-stored : 32 * n < length out → new ≡ paste out (32 * n) w (min 32 (length out - 32 * n)) → Filled v (n + 1) new
    filled-stored inside New-is =
        let whole : length w ≡ 32 = ap length w-is ∙ length-digest sha256 _ in
        record {
          long = so_far.long;
          first =
              ap (λ k. take k new) next ∙
              ap (take (32 * n + 32)) New-is ∙
              stored_more out (made v n) w (32 * n) inside made-size whole so_far.first ∙
              ap₂ take (sym size) (sym turn-made);
        }

-- no turn yet
pub after_none : (next out : List ℕ) → length next ≡ 7 → Marked next → After (value_in next) 0 next out
unfolding hashgen_turns
after_none next out seven marked =
    record { ready = marked; filled = record { long = length-value_in next seven; first = sym (take-nil (length out)) } }

-- all turns
module _ (v next out : List ℕ) (n turns : ℕ) (size : length out ≡ n) (enough : n ≤ 32 * turns) (few : 32 * turns < n + 32)
    (after : After v turns next out) where
  count : ceiling n 32 ≡ turns
  count = ceiling_unique n 32 turns (omega arith) (omega arith)

  pub hashgen-is : costing turns out ≡ hashgen sha256 n v
  unfolding hashgen
  hashgen-is =
      let whole : length out ≤ 32 * turns = omega arith in
      let all : out ≡ take n (made v turns) =
      sym (take_all (32 * turns) out whole) ∙ after.filled.first ∙ ap (λ k. take k (made v turns)) size in
      sym
      (rw (count, add-zero) (same_metered (sym all) (hashgen_turns-blocks sha256 (lit< tt) v turns after.filled.long)))

  pub data_is : length next ≡ 7 → value_in next ≡ turn_data v (ceiling n 32)
  data_is seven = value-behind next (turn_data v turns) 128 seven after.ready ∙ ap (turn_data v) (sym count)
