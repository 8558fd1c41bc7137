-- Every string that the definitions give is of bytes, over any hash: padded messages, digests, keys, states and drawn bytes.
-- Assumes it only of a string that is kept: a message that is padded, a key, and Hash_DRBG's C.
use mathlib.Core.List.{List, []}
use Prim.Native.Nat.{ℕ, zero, suc, ◌-◌, ◌*◌, ◌<◌}
use lib.Bits.{xor_lt}
use lib.Dec.{lit<, leb}
use lib.ListN.{length}
use Rattle.standard.specs.Metered.{Metered}
use Rattle.standard.specs.Hash.{Hash, Eight, block_bytes, zeros, padding, padded, block_at, digest, hash}
use Rattle.standard.specs.Hmac.{Key, xored, filled, key, hmac, rekey}
use Rattle.standard.specs.HashDf.{hash_df_turns, hash_df}
use Rattle.standard.specs.State.{State}
use Rattle.standard.specs.HashDrbg.{stepped, seeded, hashgen_turns, hashgen}
use Rattle.standard.specs.HashDrbg as HashDrbg
use Rattle.standard.specs.HmacDrbg.{Keyed, kept, update, output_turns}
use Rattle.standard.specs.HmacDrbg as HmacDrbg
use Rattle.standard.specs.Functions.{Mechanism, HMAC_DRBG, Hash_DRBG, opening, reseeding, draw, fresh_draw}
use Rattle.standard.specs.Strings.{Bytes}
use Rattle.standard.specs.Lengths.{OfBytes}
use Rattle.standard.proofs.Strings.{bytes-nil, bytes-cons, bytes-append, bytes_take, bytes_drop, bytes-replicate, bytes-map}
use Rattle.standard.proofs.Strings.{bytes-bytes_of, cond_both, if_null_both}
use Rattle.standard.proofs.Lengths.{key-bytes}

pub bytes-xored : (pad : ℕ) (s : List ℕ) → pad < 256 → Bytes s → Bytes (xored pad s)
unfolding xored
bytes-xored pad s p h = bytes-map (λ b l. xor_lt 8 b pad l p) h

module _ (H : Hash) where
  pub bytes-padding : (n : ℕ) → Bytes (padding H n)
  unfolding padding
  bytes-padding n = bytes-cons (lit< tt) (bytes-append (bytes-replicate (zeros H n) 0x00 (lit< tt)) (bytes-bytes_of _ _))

  pub bytes-padded : (m : List ℕ) → Bytes m → Bytes (padded H m)
  unfolding padded
  bytes-padded m h = bytes-append h (bytes-padding (length m))

  pub bytes-block_at : (m : List ℕ) (i : ℕ) → Bytes m → Bytes (block_at H m i)
  unfolding block_at
  bytes-block_at m i h = bytes_take (block_bytes H) (bytes_drop (block_bytes H * i) h)

  pub bytes-digest : (s : Eight) → Bytes (digest H s)
  unfolding digest
  bytes-digest s = search (bytes-append, bytes-bytes_of) depth 9

  pub bytes-hash : (m : List ℕ) → Bytes (hash H m).value
  unfolding hash
  bytes-hash m = bytes-digest _

  pub bytes-filled : (s : List ℕ) → Bytes s → Bytes (filled H s)
  unfolding filled
  bytes-filled s h = bytes-append h (bytes-replicate (block_bytes H - length s) 0x00 (lit< tt))

  pub bytes-K₀ : (K : List ℕ) → Bytes K → Bytes (key H K).value.K₀
  unfolding key
  bytes-K₀ K h =
      cond_both (λ (m : Metered Key). Bytes m.value.K₀) (leb (length K) (block_bytes H))
      (λ e. bytes-filled K h)
      (bytes-filled _ (bytes-hash K))

  pub bytes-hmac : (K : Key) (text : List ℕ) → Bytes (hmac H K text).value
  unfolding hmac
  bytes-hmac K text = bytes-hash _

  pub bytes-rekey : (K : Key) (text : List ℕ) → Bytes (rekey H K text).value.bytes
  unfolding rekey
  bytes-rekey K text = rw key-bytes (bytes-hmac K text)

  pub bytes-K₀-rekey : (K : Key) (text : List ℕ) → Bytes (rekey H K text).value.K₀
  unfolding rekey
  bytes-K₀-rekey K text = bytes-K₀ _ (bytes-hmac K text)

  pub bytes-hash_df_turns : (n : ℕ) (input : List ℕ) (i : ℕ) → Bytes (hash_df_turns H n input i).value
  unfolding hash_df_turns
  bytes-hash_df_turns n input zero = bytes-nil
  bytes-hash_df_turns n input (suc i) = bytes-append (bytes-hash_df_turns n input i) (bytes-hash _)

  pub bytes-hash_df : (input : List ℕ) (n : ℕ) → Bytes (hash_df H input n).value
  unfolding hash_df
  bytes-hash_df input n = bytes_take n (bytes-hash_df_turns n input _)

  pub bytes-stepped : (a : List ℕ) (n : ℕ) → Bytes (stepped H a n)
  unfolding stepped
  bytes-stepped a n = bytes-bytes_of _ _

  pub bytes-hashgen_turns : (v : List ℕ) (i : ℕ) → Bytes (hashgen_turns H v i).value.0
  unfolding hashgen_turns
  bytes-hashgen_turns v zero = bytes-nil
  bytes-hashgen_turns v (suc i) = bytes-append (bytes-hashgen_turns v i) (bytes-hash _)

  pub bytes-output_turns : (K : Key) (v : List ℕ) (i : ℕ) → Bytes (output_turns H K v i).value.0
  unfolding output_turns
  bytes-output_turns K v zero = bytes-nil
  bytes-output_turns K v (suc i) = bytes-append (bytes-output_turns K v i) (bytes-hmac K _)

module _ (H : Hash) where
  pub of_bytes-update : (provided : List ℕ) (u : Keyed) (counter : ℕ) → OfBytes (kept (update H provided u).value counter)
  unfolding update
  of_bytes-update provided u counter =
      if_null_both (λ (m : Metered Keyed). OfBytes (kept m.value counter)) provided
      (record { first = bytes-rekey H _ _; second = bytes-hmac H _ _ })
      (record { first = bytes-rekey H _ _; second = bytes-hmac H _ _ })

  pub of_bytes-seeded : (material : List ℕ) → OfBytes (seeded H material).value
  unfolding seeded
  of_bytes-seeded material = record { first = bytes-hash_df H _ _; second = bytes-hash_df H _ _ }

  pub of_bytes-opening : (mechanism : Mechanism) (entropy nonce personalization : List ℕ)
      → OfBytes (opening H mechanism entropy nonce personalization).value
  unfolding HmacDrbg.instantiate HashDrbg.instantiate
  of_bytes-opening HMAC_DRBG entropy nonce personalization = of_bytes-update _ _ 1
  of_bytes-opening Hash_DRBG entropy nonce personalization = of_bytes-seeded _

  pub of_bytes-reseeding : (mechanism : Mechanism) (s : State) (entropy additional : List ℕ)
      → OfBytes (reseeding H mechanism s entropy additional).value
  unfolding HmacDrbg.reseed HashDrbg.reseed
  of_bytes-reseeding HMAC_DRBG s entropy additional = of_bytes-update _ _ 1
  of_bytes-reseeding Hash_DRBG s entropy additional = of_bytes-seeded _

  pub of_bytes-draw : (mechanism : Mechanism) (s : State) (n : ℕ) (additional : List ℕ) → OfBytes s
      → OfBytes (draw H mechanism s n additional).value.state
  unfolding HmacDrbg.generate HashDrbg.generate
  of_bytes-draw HMAC_DRBG s n additional h = of_bytes-update _ _ _
  of_bytes-draw Hash_DRBG s n additional h = record { first = bytes-stepped H _ _; second = h.second }

  pub of_bytes-fresh_draw : (mechanism : Mechanism) (s : State) (n : ℕ) (entropy additional : List ℕ)
      → OfBytes (fresh_draw H mechanism s n entropy additional).value.state
  unfolding fresh_draw
  of_bytes-fresh_draw mechanism s n entropy additional = of_bytes-draw mechanism _ n [] (of_bytes-reseeding mechanism s entropy additional)

  pub bytes-draw : (mechanism : Mechanism) (s : State) (n : ℕ) (additional : List ℕ) → Bytes (draw H mechanism s n additional).value.bytes
  unfolding HmacDrbg.generate HashDrbg.generate hashgen
  bytes-draw HMAC_DRBG s n additional = bytes_take n (bytes-output_turns H _ _ _)
  bytes-draw Hash_DRBG s n additional = bytes_take n (bytes-hashgen_turns H _ _)

  pub bytes-fresh_draw : (mechanism : Mechanism) (s : State) (n : ℕ) (entropy additional : List ℕ)
      → Bytes (fresh_draw H mechanism s n entropy additional).value.bytes
  unfolding fresh_draw
  bytes-fresh_draw mechanism s n entropy additional = bytes-draw mechanism _ n []
