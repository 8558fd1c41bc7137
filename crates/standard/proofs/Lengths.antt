-- How long each string of the definitions is, over any hash: padded messages, digests, keys, states and drawn bytes; and a state's
-- counter. Laws about a padded message, or about a string cut from whole digests, assume that a word has at least one byte.
use mathlib.Core.Path.{◌≡◌, refl, sym, ap, ap₂, ◌∙◌}
use mathlib.Core.List.{List, [], ◌++◌}
use Prim.Native.Nat.{ℕ, zero, suc, ◌+◌, ◌-◌, ◌*◌, ◌/◌, ◌%◌, ◌≤◌, ◌<◌}
use native.Mathlib.Nat.{mul-mod_left, mul-div_cancel, suc-mul, zero-mul}
use native.Mathlib.Numerals.{add-one}
use native.Mathlib.Omega.{arith}
use borrow.Author.Tests.{leb-true}
use lib.Dec.{leb}
use lib.ListN.{length, take, drop, length-drop, length-append, length-replicate, length-map}
use lib.Seq.{length-take-le}
use Rattle.standard.specs.Metered.{Metered}
use Rattle.standard.specs.Strings.{ceiling}
use Rattle.standard.specs.Hash.{Hash, Eight, block_bytes, out_bytes, length_bytes, block_at, schedule, zeros, padding, padded, digest}
use Rattle.standard.specs.Hash.{hash}
use Rattle.standard.specs.Hmac.{Key, xored, filled, key, hmac, rekey}
use Rattle.standard.specs.HashDf.{hash_df_turns, hash_df}
use Rattle.standard.specs.State.{State}
use Rattle.standard.specs.HashDrbg.{seed_bytes, stepped, seeded, hashgen_turns, hashgen, refreshed}
use Rattle.standard.specs.HashDrbg as HashDrbg
use Rattle.standard.specs.HmacDrbg.{Keyed, kept, update, taken, output_turns}
use Rattle.standard.specs.HmacDrbg as HmacDrbg
use Rattle.standard.specs.Functions.{Mechanism, HMAC_DRBG, Hash_DRBG, opening, reseeding, draw, fresh_draw}
use Rattle.standard.proofs.Strings.{length-bytes_of, ceiling-add-one, add-mod-ceiling, le-ceiling, if_null_both, cond_both}
use Rattle.standard.specs.Lengths.{Ready, Sized, state_bytes}

-- n bytes, a byte 80, the zeros and l bytes are whole blocks
rounded : (n l : ℕ) {B : ℕ} → 0 < B → n + suc ((B - (n + 1 + l) % B) % B + l) ≡ ((n + l) / B + 1) * B
rounded n l {B} h =
    let up : n + suc ((B - (n + 1 + l) % B) % B + l) ≡ ceiling (n + 1 + l) B * B = omega (arith, add-mod-ceiling (n + 1 + l) h) in
    let order : n + 1 + l ≡ n + l + 1 = omega arith in
    up ∙ ap (λ (x : ℕ). x * B) (ap (λ (x : ℕ). ceiling x B) order ∙ ceiling-add-one (n + l) h)

-- one more string of d bytes
grown : (s t : List ℕ) (i d : ℕ) → length s ≡ i * d → length t ≡ d → length (s ++ t) ≡ suc i * d
grown s t i d h l = length-append s t ∙ ap₂ ◌+◌ h l ∙ sym (suc-mul i d)

pub length-xored : (pad : ℕ) (s : List ℕ) → length (xored pad s) ≡ length s
unfolding xored
length-xored pad s = length-map s _

-- §5 and 6 of FIPS 180-4, and FIPS 198-1
module _ (H : Hash) where
  pub length-padded : 0 < H.word_bytes → (m : List ℕ)
      → length (padded H m) ≡ ((length m + length_bytes H) / block_bytes H + 1) * block_bytes H
  unfolding padded padding zeros
  length-padded w m = simp (length-append, length-replicate, length-bytes_of) (rounded (length m) (length_bytes H) (omega arith))

  -- whole blocks, and how many
  pub padded-whole : 0 < H.word_bytes → (m : List ℕ) → length (padded H m) % block_bytes H ≡ 0
  padded-whole w m = rw (length-padded w m) (mul-mod_left _ (block_bytes H))

  pub blocks-padded : 0 < H.word_bytes → (m : List ℕ)
      → length (padded H m) / block_bytes H ≡ (length m + length_bytes H) / block_bytes H + 1
  blocks-padded w m = rw (length-padded w m) (mul-div_cancel _ (omega arith))

  pub length-block_at : (m : List ℕ) (i : ℕ) → block_bytes H * i + block_bytes H ≤ length m → length (block_at H m i) ≡ block_bytes H
  unfolding block_at
  length-block_at m i h = length-take-le (block_bytes H) (drop (block_bytes H * i) m) (rw length-drop (omega arith))

  pub length-schedule : (block : List ℕ) (n : ℕ) → length (schedule H block n) ≡ n
  unfolding schedule
  length-schedule block zero = refl
  length-schedule block (suc n) = length-append (schedule H block n) _ ∙ add-one _ ∙ ap suc (length-schedule block n)

  pub length-digest : (s : Eight) → length (digest H s) ≡ out_bytes H
  unfolding digest
  length-digest s = simp (length-append, length-bytes_of) (omega arith)

  pub length-hash : (m : List ℕ) → length (hash H m).value ≡ out_bytes H
  unfolding hash
  length-hash m = length-digest _

  pub length-filled : (s : List ℕ) → length s ≤ block_bytes H → length (filled H s) ≡ block_bytes H
  unfolding filled
  length-filled s h = simp (length-append, length-replicate) (omega arith)

  pub key-bytes : (K : List ℕ) → (key H K).value.bytes ≡ K
  unfolding key
  key-bytes K = cond_both (λ (m : Metered Key). m.value.bytes ≡ K) (leb (length K) (block_bytes H)) (λ e. refl) refl

  pub length-K₀ : (K : List ℕ) → length (key H K).value.K₀ ≡ block_bytes H
  unfolding key
  length-K₀ K =
      cond_both (λ (m : Metered Key). length m.value.K₀ ≡ block_bytes H) (leb (length K) (block_bytes H))
      (λ e. length-filled K (leb-true (length K) (block_bytes H) e))
      (length-filled (hash H K).value (rw length-hash (omega arith)))

  pub length-hmac : (K : Key) (text : List ℕ) → length (hmac H K text).value ≡ out_bytes H
  unfolding hmac
  length-hmac K text = length-hash _

  pub length-rekey : (K : Key) (text : List ℕ) → length (rekey H K text).value.bytes ≡ out_bytes H
  unfolding rekey
  length-rekey K text = ap length (key-bytes (hmac H K text).value) ∙ length-hmac K text

  pub length-K₀-rekey : (K : Key) (text : List ℕ) → length (rekey H K text).value.K₀ ≡ block_bytes H
  unfolding rekey
  length-K₀-rekey K text = length-K₀ (hmac H K text).value

  -- SP 800-90A §10.3.1
  pub length-hash_df_turns : (n : ℕ) (input : List ℕ) (i : ℕ) → length (hash_df_turns H n input i).value ≡ i * out_bytes H
  unfolding hash_df_turns
  length-hash_df_turns n input zero = sym (zero-mul (out_bytes H))
  length-hash_df_turns n input (suc i) =
      grown (hash_df_turns H n input i).value _ i (out_bytes H) (length-hash_df_turns n input i) (length-hash _)

  -- n bytes can be cut from whole digests
  pub length_cut : 0 < H.word_bytes → (n : ℕ) (s : List ℕ) → length s ≡ ceiling n (out_bytes H) * out_bytes H → length (take n s) ≡ n
  length_cut w n s h = length-take-le n s (rw h (le-ceiling n (omega arith)))

  pub length-hash_df : 0 < H.word_bytes → (input : List ℕ) (n : ℕ) → length (hash_df H input n).value ≡ n
  unfolding hash_df
  length-hash_df w input n = length_cut w n _ (length-hash_df_turns n input _)

  -- SP 800-90A §10.1.1
  pub length-stepped : (a : List ℕ) (n : ℕ) → length (stepped H a n) ≡ seed_bytes H
  unfolding stepped
  length-stepped a n = length-bytes_of _ _

  pub length-hashgen_turns : (v : List ℕ) (i : ℕ) → length (hashgen_turns H v i).value.0 ≡ i * out_bytes H
  unfolding hashgen_turns
  length-hashgen_turns v zero = sym (zero-mul (out_bytes H))
  length-hashgen_turns v (suc i) =
      grown (hashgen_turns H v i).value.0 _ i (out_bytes H) (length-hashgen_turns v i) (length-hash _)

  pub length_data_hashgen_turns : (v : List ℕ) (i : ℕ) → length v ≡ seed_bytes H → length (hashgen_turns H v i).value.1 ≡ seed_bytes H
  unfolding hashgen_turns
  length_data_hashgen_turns v zero h = h
  length_data_hashgen_turns v (suc i) h = length-stepped _ _

  pub length-hashgen : 0 < H.word_bytes → (n : ℕ) (v : List ℕ) → length (hashgen H n v).value ≡ n
  unfolding hashgen
  length-hashgen w n v = length_cut w n _ (length-hashgen_turns v _)

  pub length-refreshed : (additional v : List ℕ) → length v ≡ seed_bytes H → length (refreshed H additional v).value ≡ seed_bytes H
  unfolding refreshed
  length-refreshed additional v h =
      if_null_both (λ (m : Metered (List ℕ)). length m.value ≡ seed_bytes H) additional h (length-stepped v _)

  -- SP 800-90A §10.1.2
  pub length-output_turns : (K : Key) (v : List ℕ) (i : ℕ) → length (output_turns H K v i).value.0 ≡ i * out_bytes H
  unfolding output_turns
  length-output_turns K v zero = sym (zero-mul (out_bytes H))
  length-output_turns K v (suc i) =
      grown (output_turns H K v i).value.0 _ i (out_bytes H) (length-output_turns K v i) (length-hmac K _)

  pub length-V-output_turns : (K : Key) (v : List ℕ) (i : ℕ) → length v ≡ out_bytes H → length (output_turns H K v i).value.1 ≡ out_bytes H
  unfolding output_turns
  length-V-output_turns K v zero h = h
  length-V-output_turns K v (suc i) h = length-hmac K _

module _ (H : Hash) where
  pub ready-rekey : (K : Key) (text v : List ℕ) → length v ≡ out_bytes H → Ready H (record { K = (rekey H K text).value; v = v })
  ready-rekey K text v h = record { bytes = length-rekey H K text; K₀ = length-K₀-rekey H K text; v = h }

  pub ready-update : (provided : List ℕ) (u : Keyed) → Ready H (update H provided u).value
  unfolding update
  ready-update provided u =
      if_null_both (λ (m : Metered Keyed). Ready H m.value) provided
      (ready-rekey _ _ _ (length-hmac H _ _))
      (ready-rekey _ _ _ (length-hmac H _ _))

  pub ready-key : (K v : List ℕ) → length K ≡ out_bytes H → length v ≡ out_bytes H → Ready H (record { K = (key H K).value; v = v })
  ready-key K v h l = record { bytes = ap length (key-bytes H K) ∙ h; K₀ = length-K₀ H K; v = l }

  pub ready-taken : (s : State) → Sized (out_bytes H) s → Ready H (taken H s).value
  unfolding taken
  ready-taken s h = ready-key s.first s.second h.first h.second

  pub sized_kept : (u : Keyed) (counter : ℕ) → Ready H u → Sized (out_bytes H) (kept u counter)
  sized_kept u counter h = record { first = h.bytes; second = h.v }

  pub sized_seeded : 0 < H.word_bytes → (material : List ℕ) → Sized (seed_bytes H) (seeded H material).value
  unfolding seeded
  sized_seeded w material = record { first = length-hash_df H w _ _; second = length-hash_df H w _ _ }

  -- both mechanisms: the state after each function
  pub sized_opening : 0 < H.word_bytes → (mechanism : Mechanism) (entropy nonce personalization : List ℕ)
      → Sized (state_bytes H mechanism) (opening H mechanism entropy nonce personalization).value
  unfolding HmacDrbg.instantiate HashDrbg.instantiate
  sized_opening w HMAC_DRBG entropy nonce personalization = sized_kept _ 1 (ready-update _ _)
  sized_opening w Hash_DRBG entropy nonce personalization = sized_seeded w _

  pub sized_reseeding : 0 < H.word_bytes → (mechanism : Mechanism) (s : State) (entropy additional : List ℕ)
      → Sized (state_bytes H mechanism) (reseeding H mechanism s entropy additional).value
  unfolding HmacDrbg.reseed HashDrbg.reseed
  sized_reseeding w HMAC_DRBG s entropy additional = sized_kept _ 1 (ready-update _ _)
  sized_reseeding w Hash_DRBG s entropy additional = sized_seeded w _

  pub sized_draw : (mechanism : Mechanism) (s : State) (n : ℕ) (additional : List ℕ) → Sized (state_bytes H mechanism) s
      → Sized (state_bytes H mechanism) (draw H mechanism s n additional).value.state
  unfolding HmacDrbg.generate HashDrbg.generate
  sized_draw HMAC_DRBG s n additional h = sized_kept _ _ (ready-update _ _)
  sized_draw Hash_DRBG s n additional h = record { first = length-stepped H _ _; second = h.second }

  pub sized_fresh_draw : 0 < H.word_bytes → (mechanism : Mechanism) (s : State) (n : ℕ) (entropy additional : List ℕ)
      → Sized (state_bytes H mechanism) (fresh_draw H mechanism s n entropy additional).value.state
  unfolding fresh_draw
  sized_fresh_draw w mechanism s n entropy additional = sized_draw mechanism _ n [] (sized_reseeding w mechanism s entropy additional)

  -- a draw gives exactly the bytes asked for
  pub length-draw : 0 < H.word_bytes → (mechanism : Mechanism) (s : State) (n : ℕ) (additional : List ℕ)
      → length (draw H mechanism s n additional).value.bytes ≡ n
  unfolding HmacDrbg.generate HashDrbg.generate
  length-draw w HMAC_DRBG s n additional = length_cut H w n _ (length-output_turns H _ _ _)
  length-draw w Hash_DRBG s n additional = length-hashgen H w n _

  pub length-fresh_draw : 0 < H.word_bytes → (mechanism : Mechanism) (s : State) (n : ℕ) (entropy additional : List ℕ)
      → length (fresh_draw H mechanism s n entropy additional).value.bytes ≡ n
  unfolding fresh_draw
  length-fresh_draw w mechanism s n entropy additional = length-draw w mechanism _ n []

  -- the counter
  pub counter-opening : (mechanism : Mechanism) (entropy nonce personalization : List ℕ)
      → (opening H mechanism entropy nonce personalization).value.counter ≡ 1
  unfolding HmacDrbg.instantiate HashDrbg.instantiate seeded
  counter-opening HMAC_DRBG entropy nonce personalization = refl
  counter-opening Hash_DRBG entropy nonce personalization = refl

  pub counter-reseeding : (mechanism : Mechanism) (s : State) (entropy additional : List ℕ)
      → (reseeding H mechanism s entropy additional).value.counter ≡ 1
  unfolding HmacDrbg.reseed HashDrbg.reseed seeded
  counter-reseeding HMAC_DRBG s entropy additional = refl
  counter-reseeding Hash_DRBG s entropy additional = refl

  pub counter-draw : (mechanism : Mechanism) (s : State) (n : ℕ) (additional : List ℕ)
      → (draw H mechanism s n additional).value.state.counter ≡ s.counter + 1
  unfolding HmacDrbg.generate HashDrbg.generate
  counter-draw HMAC_DRBG s n additional = refl
  counter-draw Hash_DRBG s n additional = refl

  pub counter-fresh_draw : (mechanism : Mechanism) (s : State) (n : ℕ) (entropy additional : List ℕ)
      → (fresh_draw H mechanism s n entropy additional).value.state.counter ≡ 2
  unfolding fresh_draw
  counter-fresh_draw mechanism s n entropy additional =
      counter-draw mechanism _ n [] ∙ ap (λ (x : ℕ). x + 1) (counter-reseeding mechanism s entropy additional)
