-- Hash_df for 55 bytes is two hashes. Assumes nothing.
use mathlib.Core.Path.{◌≡◌, sym, ap, ◌∙◌}
use mathlib.Core.List.{List, ◌∷◌}
use Prim.Native.Nat.{ℕ, ◌+◌, ◌*◌, ◌/◌}
use native.Mathlib.Omega.{arith}
use lib.Dec.{lit<}
use lib.ListN.{length, take}
use lib.Seq.{paste, length-take-le}
use Rattle.copies.proofs.Pasted.{pasted_both}
use Rattle.standard.specs.Metered.{Metered}
use Rattle.standard.specs.Strings.{bytes_of, ceiling}
use Rattle.standard.specs.Hash.{hash}
use Rattle.standard.specs.HashDf.{hash_df, hash_df_turns}
use Rattle.standard.specs.Sha256.{sha256}
use Rattle.standard.proofs.Counts.{hash_df-blocks, sha256-hash}
use Rattle.standard.proofs.Lengths.{length-hash}
use Rattle.drbg_hash.specs.Seeds.{constant_of}
use Rattle.sha256.specs.Values.{digest_of}
use Rattle.sha256.specs.declared.running.Digest.{Digest}
use Rattle.drbg_shared.specs.Costs.{costing}
use Rattle.drbg_shared.proofs.Metered.{same_metered}

-- the two hashes, and what of the second fills 55 bytes
module _ {d : Digest} (m : List ℕ) (d-is : digest_of d ≡ hash sha256 m) where
  pub blocks_are : d.blocks ≡ (length m + 8) / 64 + 1
  blocks_are = ap (λ (h : Metered (List ℕ)). h.blocks) d-is ∙ sha256-hash m

  pub length-bytes : length d.bytes ≡ 32
  length-bytes = ap (λ (h : Metered (List ℕ)). length h.value) d-is ∙ length-hash sha256 m

  pub length_part : length (take 23 d.bytes) ≡ 23
  length_part = length-take-le 23 d.bytes (omega (arith, length-bytes))

-- §10.3.1: 55 bytes are two turns, the second over what the first left
pub hash_df_two : (input to s r : List ℕ) {one two : Digest}
    → digest_of one ≡ hash sha256 (1 ∷ 0 ∷ 0 ∷ 1 ∷ 184 ∷ input) → digest_of two ≡ hash sha256 (2 ∷ 0 ∷ 0 ∷ 1 ∷ 184 ∷ input)
    → length to ≡ 55 → s ≡ paste to 0 one.bytes (length one.bytes)
    → r ≡ paste s 32 (take 23 two.bytes) (length (take 23 two.bytes))
    → costing (one.blocks + two.blocks) r ≡ hash_df sha256 input 55
unfolding hash_df hash_df_turns ceiling bytes_of
hash_df_two input to s r {one} {two} first second size s-is r-is =
    let both = pasted_both to s r one.bytes two.bytes size (length-bytes _ first) (length-bytes _ second) s-is r-is in
    sym (rw (← first, ← second) (same_metered (sym both) (counted one.blocks two.blocks)))
  where
    counted : (a b : ℕ) → 0 + (a + 0) + (b + 0) + 0 ≡ a + b
    counted a b = omega arith

-- and what they cost
pub hash_df-count : {blocks : ℕ} {v : List ℕ} (input : List ℕ) → costing blocks v ≡ hash_df sha256 input 55
    → blocks ≡ 2 * ((length input + 13) / 64 + 1)
unfolding ceiling
hash_df-count input v-is = ap (λ (m : Metered (List ℕ)). m.blocks) v-is ∙ hash_df-blocks sha256 (lit< tt) input 55

-- C is derived from 56 bytes: two hashes of two blocks each
pub constant_count : (v : List ℕ) → length v ≡ 55 → (constant_of v).blocks ≡ 4
unfolding constant_of hash_df hash_df_turns ceiling bytes_of
constant_count v size = simp sha256-hash (omega arith)
