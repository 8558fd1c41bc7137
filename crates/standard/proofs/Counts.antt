-- How many blocks each definition consumes: the table 'Blocks' of document 01 for all lengths, over any hash with words of at least
-- one byte, and then with the document's own numbers for SHA-256. A state's fields are assumed to have their lengths.
use mathlib.Core.Path.{◌≡◌, refl, sym, ap, ap₂, ◌∙◌}
use mathlib.Core.List.{List, [], ◌∷◌, ◌++◌}
use Prim.Native.Nat.{ℕ, zero, suc, ◌+◌, ◌*◌, ◌/◌, ◌≤◌, ◌<◌}
use native.Mathlib.Nat.{suc-mul, zero-mul, not-suc-le-zero, zero-div, mul-suc, add-zero, zero-add, add_assoc, div-eq_of_lt, add-div_left}
use native.Mathlib.Numerals.{add-one}
use native.Mathlib.Omega.{arith}
use borrow.Author.Tests.{le-leb}
use lib.Dec.{lit<}
use lib.ListN.{length, replicate, length-append, length-replicate}
use Rattle.standard.specs.Metered.{◌>>=◌}
use Rattle.standard.specs.Strings.{bytes_of, ceiling, if_null}
use Rattle.standard.specs.Hash.{Hash, Eight, block_bytes, out_bytes, length_bytes, absorbed, hash}
use Rattle.standard.specs.Sha256.{sha256}
use Rattle.standard.specs.Hmac.{Key, ipad, opad, xored, key, hmac, rekey}
use Rattle.standard.specs.HashDf.{hash_df_turns, hash_df}
use Rattle.standard.specs.State.{State}
use Rattle.standard.specs.HashDrbg.{seed_bytes, seeded, hashgen_turns, hashgen, refreshed}
use Rattle.standard.specs.HashDrbg as HashDrbg
use Rattle.standard.specs.HmacDrbg.{Keyed, update, taken, output_turns}
use Rattle.standard.specs.HmacDrbg as HmacDrbg
use Rattle.standard.specs.Functions.{Mechanism, HMAC_DRBG, Hash_DRBG, opening, reseeding, draw, fresh_draw}
use Rattle.standard.proofs.Strings.{length-bytes_of, ceiling_unique}
use Rattle.standard.proofs.Lengths.{blocks-padded, length-K₀, length-xored, length-hash, length-hmac, length-K₀-rekey}
use Rattle.standard.proofs.Lengths.{length_data_hashgen_turns, length-V-output_turns, length-hash_df, length-refreshed, ready-key}
use Rattle.standard.proofs.Lengths.{ready-taken, ready-update, sized_reseeding}
use Rattle.standard.specs.Lengths.{Ready, Sized, state_bytes}
use Rattle.standard.specs.Blocks.{hash_count, hmac_count, update_count, open_count, reseed_count, draw_count, fresh_draw_count}

pub absorbed-blocks : (H : Hash) (m : List ℕ) (n : ℕ) (s : Eight) → (absorbed H m n s).blocks ≡ n
unfolding absorbed
absorbed-blocks H m zero s = refl
absorbed-blocks H m (suc n) s = omega (arith, absorbed-blocks H m n s)

module _ (H : Hash) (w : 0 < H.word_bytes) where
  block_positive : 0 < block_bytes H
  block_positive = omega arith

  -- one block more in front
  block_more : (n l : ℕ) → (block_bytes H + n + l) / block_bytes H ≡ (n + l) / block_bytes H + 1
  block_more n l = rw add_assoc (add-div_left (n + l) block_positive)

  pub hash-blocks : (m : List ℕ) → (hash H m).blocks ≡ hash_count H (length m)
  unfolding hash
  hash-blocks m = rw (add-zero, absorbed-blocks) (blocks-padded H w m)

  pub hash_prefixed_blocks : (p m : List ℕ) → length p ≡ block_bytes H → (hash H (p ++ m)).blocks ≡ hash_count H (length m) + 1
  hash_prefixed_blocks p m h = hash-blocks (p ++ m) ∙ rw (length-append, h, block_more)

  -- a digest leaves room for the padding in its block
  digest-fits : (out_bytes H + length_bytes H) / block_bytes H ≡ 0
  digest-fits = div-eq_of_lt (omega arith)

  pub hmac-blocks : (K : Key) (text : List ℕ) → length K.K₀ ≡ block_bytes H → (hmac H K text).blocks ≡ hmac_count H (length text)
  unfolding hmac
  hmac-blocks K text h =
      ap₂ ◌+◌ (hash_prefixed_blocks (xored ipad K.K₀) text (length-xored ipad K.K₀ ∙ h))
      (hash_prefixed_blocks (xored opad K.K₀) _ (length-xored opad K.K₀ ∙ h))
      ∙ rw (length-hash, digest-fits) (omega arith)

  pub hmac-digest-blocks : (K : Key) (v : List ℕ) → length K.K₀ ≡ block_bytes H → length v ≡ out_bytes H → (hmac H K v).blocks ≡ 4
  hmac-digest-blocks K v h l = hmac-blocks K v h ∙ rw (l, digest-fits)

  pub key-blocks : (K : List ℕ) → length K ≤ block_bytes H → (key H K).blocks ≡ 0
  unfolding key
  key-blocks K h = rw (le-leb (length K) (block_bytes H) h)

  pub rekey-blocks : (K : Key) (text : List ℕ) → length K.K₀ ≡ block_bytes H → (rekey H K text).blocks ≡ hmac_count H (length text)
  unfolding rekey
  rekey-blocks K text h =
      ap₂ ◌+◌ (hmac-blocks K text h) (key-blocks (hmac H K text).value (rw length-hmac (omega arith))) ∙ add-zero _

  -- steps 1 and 2 of an update, or 4 and 5
  pub half-update-blocks : (K : Key) (v d : List ℕ) (b : ℕ) → length K.K₀ ≡ block_bytes H → length v ≡ out_bytes H
      → (rekey H K (v ++ (b ∷ d))).blocks + (hmac H (rekey H K (v ++ (b ∷ d))).value v).blocks
      ≡ (length d + (10 * H.word_bytes + 1)) / block_bytes H + 8
  half-update-blocks K v d b h l =
      let order : out_bytes H + suc (length d) + length_bytes H ≡ length d + (10 * H.word_bytes + 1) = omega arith in
      ap₂ ◌+◌ (rekey-blocks K (v ++ (b ∷ d)) h) (hmac-digest-blocks _ v (length-K₀-rekey H K (v ++ (b ∷ d))) l)
      ∙ rw (length-append, l, order) (omega arith)

  pub update-blocks : (d : List ℕ) (u : Keyed) → Ready H u → (update H d u).blocks ≡ update_count H (length d)
  unfolding update if_null
  update-blocks [] u h =
      let none : (0 + (10 * H.word_bytes + 1)) / block_bytes H ≡ 0 = div-eq_of_lt (omega arith) in
      omega (arith, half-update-blocks u.K u.v [] 0x00 h.K₀ h.v, none)
  update-blocks (b ∷ d) u h =
      let K : Key = (rekey H u.K (u.v ++ (0x00 ∷ b ∷ d))).value in
      omega (
        arith,
        half-update-blocks u.K u.v (b ∷ d) 0x00 h.K₀ h.v,
        half-update-blocks K (hmac H K u.v).value (b ∷ d) 0x01 (length-K₀-rekey H u.K _) (length-hmac H K u.v),
      )

  pub output_turns-blocks : (K : Key) (v : List ℕ) (i : ℕ) → length K.K₀ ≡ block_bytes H → length v ≡ out_bytes H
      → (output_turns H K v i).blocks ≡ 4 * i
  unfolding output_turns
  output_turns-blocks K v zero h l = refl
  output_turns-blocks K v (suc i) h l =
      ap₂ ◌+◌ (output_turns-blocks K v i h l) (add-zero _ ∙ hmac-digest-blocks K _ h (length-V-output_turns H K v i l)) ∙ sym (mul-suc 4 i)

  -- a string of the seed's length fills a block with its padding
  pub hash_seed_blocks : (v : List ℕ) → length v ≡ seed_bytes H → (hash H v).blocks ≡ 1
  hash_seed_blocks v h =
      let fits : (seed_bytes H + length_bytes H) / block_bytes H ≡ 0 = div-eq_of_lt (omega arith) in
      hash-blocks v ∙ rw (h, fits)

  -- and with a byte in front takes one more, with n bytes behind it
  pub hash_marked_blocks : (b : ℕ) (m : List ℕ) (n : ℕ) → length m ≡ seed_bytes H + n → (hash H (b ∷ m)).blocks ≡ n / block_bytes H + 2
  hash_marked_blocks b m n h =
      let whole : suc (seed_bytes H + n) + length_bytes H ≡ block_bytes H + n = omega arith in
      hash-blocks (b ∷ m) ∙ rw (h, whole, add-div_left n block_positive) (omega arith)

  pub hashgen_turns-blocks : (v : List ℕ) (i : ℕ) → length v ≡ seed_bytes H → (hashgen_turns H v i).blocks ≡ i
  unfolding hashgen_turns
  hashgen_turns-blocks v zero h = refl
  hashgen_turns-blocks v (suc i) h =
      ap₂ ◌+◌ (hashgen_turns-blocks v i h) (add-zero _ ∙ hash_seed_blocks _ (length_data_hashgen_turns H v i h)) ∙ add-one i

  -- steps 3 and 4 of Hash_DRBG's draw
  pub hashgen-blocks : (n : ℕ) (v : List ℕ) → length v ≡ seed_bytes H
      → (hashgen H n v).blocks + (hash H (0x03 ∷ v)).blocks ≡ ceiling n (out_bytes H) + 2
  unfolding hashgen
  hashgen-blocks n v h =
      ap₂ ◌+◌ (add-zero _ ∙ hashgen_turns-blocks v (ceiling n (out_bytes H)) h)
      (hash_marked_blocks 0x03 v 0 (h ∙ sym (add-zero (seed_bytes H))) ∙ rw zero-div)

  -- a string behind the counter and the length of Hash_df
  pub hash_input_blocks : (i n : ℕ) (input : List ℕ)
      → (hash H (bytes_of 1 i ++ (bytes_of 4 n ++ input))).blocks ≡ (length input + (2 * H.word_bytes + 5)) / block_bytes H + 1
  hash_input_blocks i n input =
      let order : 1 + (4 + length input) + length_bytes H ≡ length input + (2 * H.word_bytes + 5) = omega arith in
      hash-blocks (bytes_of 1 i ++ (bytes_of 4 n ++ input)) ∙ simp (length-append, length-bytes_of) (rw order)

  pub hash_df_turns-blocks : (n : ℕ) (input : List ℕ) (i : ℕ)
      → (hash_df_turns H n input i).blocks ≡ i * ((length input + (2 * H.word_bytes + 5)) / block_bytes H + 1)
  unfolding hash_df_turns
  hash_df_turns-blocks n input zero = sym (zero-mul _)
  hash_df_turns-blocks n input (suc i) =
      ap₂ ◌+◌ (hash_df_turns-blocks n input i) (add-zero _ ∙ hash_input_blocks (i + 1) (8 * n) input)
      ∙ sym (suc-mul i ((length input + (2 * H.word_bytes + 5)) / block_bytes H + 1))

  pub hash_df-blocks : (input : List ℕ) (n : ℕ)
      → (hash_df H input n).blocks ≡ ceiling n (out_bytes H) * ((length input + (2 * H.word_bytes + 5)) / block_bytes H + 1)
  unfolding hash_df
  hash_df-blocks input n = add-zero _ ∙ hash_df_turns-blocks n input (ceiling n (out_bytes H))

  pub seeded-blocks : (material : List ℕ) → (seeded H material).blocks
      ≡ 2 * ((length material + (2 * H.word_bytes + 5)) / block_bytes H) + 6
  unfolding seeded
  seeded-blocks material =
      let two : ceiling (seed_bytes H) (out_bytes H) ≡ 2 = ceiling_unique (seed_bytes H) (out_bytes H) 2 (omega arith) (omega arith) in
      let rest : 5 / block_bytes H ≡ 0 = div-eq_of_lt (omega arith) in
      let whole : suc (seed_bytes H) + (2 * H.word_bytes + 5) ≡ block_bytes H + 5 = omega arith in
      ap₂ ◌+◌ (hash_df-blocks material (seed_bytes H)) (add-zero _ ∙ hash_df-blocks _ (seed_bytes H))
      ∙ rw (length-hash_df H w material (seed_bytes H), two, whole, add-div_left 5 block_positive, rest) (omega arith)

  pub taken-blocks : (s : State) → Sized (out_bytes H) s → (taken H s).blocks ≡ 0
  unfolding taken
  taken-blocks s h = add-zero _ ∙ key-blocks s.first (rw h.first (omega arith))

  -- steps 3, 4 and 6 of HMAC_DRBG's draw
  pub turns-blocks : (u : Keyed) (i : ℕ) (a : List ℕ) → Ready H u
      → (output_turns H u.K u.v i).blocks + (update H a (record { K = u.K; v = (output_turns H u.K u.v i).value.1 })).blocks
      ≡ 4 * i + update_count H (length a)
  turns-blocks u i a h =
      ap₂ ◌+◌ (output_turns-blocks u.K u.v i h.K₀ h.v)
      (update-blocks a _ (record { bytes = h.bytes; K₀ = h.K₀; v = length-V-output_turns H u.K u.v i h.v }))

  pub opening-blocks : (mechanism : Mechanism) (entropy nonce personalization : List ℕ)
      → (opening H mechanism entropy nonce personalization).blocks ≡ open_count H mechanism (length (entropy ++ (nonce ++ personalization)))
  unfolding HmacDrbg.instantiate HashDrbg.instantiate
  opening-blocks HMAC_DRBG entropy nonce personalization =
      ap₂ ◌+◌ (key-blocks (replicate (out_bytes H) 0x00) (rw length-replicate (omega arith)))
      (add-zero _ ∙ update-blocks _ _ (ready-key H _ _ (length-replicate (out_bytes H) 0x00) (length-replicate (out_bytes H) 0x01)))
      ∙ zero-add _
  opening-blocks Hash_DRBG entropy nonce personalization = seeded-blocks (entropy ++ (nonce ++ personalization))

  pub reseeding-blocks : (mechanism : Mechanism) (s : State) (entropy additional : List ℕ) → Sized (state_bytes H mechanism) s
      → (reseeding H mechanism s entropy additional).blocks ≡ reseed_count H mechanism (length (entropy ++ additional))
  unfolding HmacDrbg.reseed HashDrbg.reseed
  reseeding-blocks HMAC_DRBG s entropy additional h =
      ap₂ ◌+◌ (taken-blocks s h) (add-zero _ ∙ update-blocks (entropy ++ additional) _ (ready-taken H s h)) ∙ zero-add _
  reseeding-blocks Hash_DRBG s entropy additional h =
      let n : ℕ = length (entropy ++ additional) in
      let whole : suc (seed_bytes H + n) + (2 * H.word_bytes + 5) ≡ block_bytes H + (n + 5) = omega arith in
      seeded-blocks (0x01 ∷ (s.first ++ (entropy ++ additional)))
      ∙ rw (length-append s.first, h.first, whole, add-div_left (n + 5) block_positive) (omega arith)

  pub draw-blocks : (mechanism : Mechanism) (s : State) (n : ℕ) (additional : List ℕ) → Sized (state_bytes H mechanism) s
      → (draw H mechanism s n additional).blocks ≡ draw_count H mechanism n (length additional)
  unfolding HmacDrbg.generate HashDrbg.generate refreshed if_null
  draw-blocks HMAC_DRBG s n [] h =
      omega (arith, taken-blocks s h, turns-blocks (taken H s).value (ceiling n (out_bytes H)) [] (ready-taken H s h))
  draw-blocks HMAC_DRBG s n (b ∷ a) h =
      omega (
        arith,
        taken-blocks s h,
        update-blocks (b ∷ a) (taken H s).value (ready-taken H s h),
        turns-blocks (update H (b ∷ a) (taken H s).value).value (ceiling n (out_bytes H)) (b ∷ a) (ready-update H (b ∷ a) _),
      )
  draw-blocks Hash_DRBG s n [] h = omega (arith, hashgen-blocks n s.first h.first)
  draw-blocks Hash_DRBG s n (b ∷ a) h =
      omega (
        arith,
        hashgen-blocks n (refreshed H (b ∷ a) s.first).value (length-refreshed H (b ∷ a) s.first h.first),
        hash_marked_blocks 0x02 (s.first ++ (b ∷ a)) (suc (length a)) (length-append s.first (b ∷ a) ∙ rw h.first),
      )

  pub fresh_draw-blocks : (mechanism : Mechanism) (s : State) (n : ℕ) (entropy additional : List ℕ) → Sized (state_bytes H mechanism) s
      → (fresh_draw H mechanism s n entropy additional).blocks ≡ fresh_draw_count H mechanism n (length (entropy ++ additional))
  unfolding fresh_draw
  fresh_draw-blocks mechanism s n entropy additional h =
      ap₂ ◌+◌ (reseeding-blocks mechanism s entropy additional h)
      (draw-blocks mechanism _ n [] (sized_reseeding H w mechanism s entropy additional))

  -- a key made ready and used
  pub keyed-hmac-blocks : (K text : List ℕ) → length K ≤ block_bytes H
      → (key H K >>= λ K. hmac H K text).blocks ≡ hmac_count H (length text)
  keyed-hmac-blocks K text h = ap₂ ◌+◌ (key-blocks K h) (hmac-blocks _ text (length-K₀ H K)) ∙ zero-add _

-- an update with something
pub update_count-some : (H : Hash) (d : ℕ) → 0 < d → update_count H d ≡ 2 * ((d + (10 * H.word_bytes + 1)) / block_bytes H) + 16
update_count-some H zero h = absurd (not-suc-le-zero h)
update_count-some H (suc d) h = refl

-- SHA-256, with the document's numbers
pub sha256-hash : (m : List ℕ) → (hash sha256 m).blocks ≡ (length m + 8) / 64 + 1
sha256-hash = hash-blocks sha256 (lit< tt)

pub sha256-hmac : (K text : List ℕ) → length K ≤ 64 → (key sha256 K >>= λ K. hmac sha256 K text).blocks ≡ (length text + 8) / 64 + 4
sha256-hmac = keyed-hmac-blocks sha256 (lit< tt)

pub sha256-update : (d : List ℕ) (u : Keyed) → Ready sha256 u → 0 < length d → (update sha256 d u).blocks ≡ 2 * ((length d + 41) / 64) + 16
sha256-update d u h l = update-blocks sha256 (lit< tt) d u h ∙ update_count-some sha256 (length d) l

pub sha256-update-none : (u : Keyed) → Ready sha256 u → (update sha256 [] u).blocks ≡ 8
sha256-update-none = update-blocks sha256 (lit< tt) []

pub sha256-hmac_open : (entropy nonce personalization : List ℕ) → let d : ℕ = length (entropy ++ (nonce ++ personalization)) in
    0 < d → (opening sha256 HMAC_DRBG entropy nonce personalization).blocks ≡ 2 * ((d + 41) / 64) + 16
sha256-hmac_open entropy nonce personalization l =
    opening-blocks sha256 (lit< tt) HMAC_DRBG entropy nonce personalization ∙ update_count-some sha256 _ l

pub sha256-hmac_open_none : (opening sha256 HMAC_DRBG [] [] []).blocks ≡ 8
sha256-hmac_open_none = opening-blocks sha256 (lit< tt) HMAC_DRBG [] [] []

pub sha256-hash_open : (entropy nonce personalization : List ℕ) → let d : ℕ = length (entropy ++ (nonce ++ personalization)) in
    (opening sha256 Hash_DRBG entropy nonce personalization).blocks ≡ 2 * ((d + 13) / 64) + 6
sha256-hash_open = opening-blocks sha256 (lit< tt) Hash_DRBG

pub sha256-hmac-reseed : (s : State) (entropy additional : List ℕ) → Sized 32 s → let d : ℕ = length (entropy ++ additional) in
    0 < d → (reseeding sha256 HMAC_DRBG s entropy additional).blocks ≡ 2 * ((d + 41) / 64) + 16
sha256-hmac-reseed s entropy additional h l =
    reseeding-blocks sha256 (lit< tt) HMAC_DRBG s entropy additional h ∙ update_count-some sha256 _ l

pub sha256-hmac-reseed-none : (s : State) → Sized 32 s → (reseeding sha256 HMAC_DRBG s [] []).blocks ≡ 8
sha256-hmac-reseed-none s h = reseeding-blocks sha256 (lit< tt) HMAC_DRBG s [] [] h

pub sha256-hash-reseed : (s : State) (entropy additional : List ℕ) → Sized 55 s → let d : ℕ = length (entropy ++ additional) in
    (reseeding sha256 Hash_DRBG s entropy additional).blocks ≡ 2 * ((d + 5) / 64) + 8
sha256-hash-reseed = reseeding-blocks sha256 (lit< tt) Hash_DRBG

pub sha256-hmac-draw : (s : State) (b : ℕ) → Sized 32 s → (draw sha256 HMAC_DRBG s b []).blocks ≡ 4 * ceiling b 32 + 8
sha256-hmac-draw s b = draw-blocks sha256 (lit< tt) HMAC_DRBG s b []

pub sha256-hash-draw : (s : State) (b : ℕ) → Sized 55 s → (draw sha256 Hash_DRBG s b []).blocks ≡ ceiling b 32 + 2
sha256-hash-draw s b = draw-blocks sha256 (lit< tt) Hash_DRBG s b []

pub sha256-hmac-draw_additional : (s : State) (b : ℕ) (additional : List ℕ) → Sized 32 s → let a : ℕ = length additional in
    0 < a → (draw sha256 HMAC_DRBG s b additional).blocks ≡ 4 * ceiling b 32 + 4 * ((a + 41) / 64) + 32
sha256-hmac-draw_additional s b [] h l = absurd (not-suc-le-zero l)
sha256-hmac-draw_additional s b (x ∷ additional) h l = draw-blocks sha256 (lit< tt) HMAC_DRBG s b (x ∷ additional) h

pub sha256-hash-draw_additional : (s : State) (b : ℕ) (additional : List ℕ) → Sized 55 s → let a : ℕ = length additional in
    0 < a → (draw sha256 Hash_DRBG s b additional).blocks ≡ ceiling b 32 + a / 64 + 4
sha256-hash-draw_additional s b [] h l = absurd (not-suc-le-zero l)
sha256-hash-draw_additional s b (x ∷ additional) h l = draw-blocks sha256 (lit< tt) Hash_DRBG s b (x ∷ additional) h

pub sha256-hmac-fresh : (s : State) (b : ℕ) (entropy additional : List ℕ) → Sized 32 s → let d : ℕ = length (entropy ++ additional) in
    0 < d → (fresh_draw sha256 HMAC_DRBG s b entropy additional).blocks ≡ 2 * ((d + 41) / 64) + 16 + (4 * ceiling b 32 + 8)
sha256-hmac-fresh s b entropy additional h l =
    fresh_draw-blocks sha256 (lit< tt) HMAC_DRBG s b entropy additional h
    ∙ ap (λ (x : ℕ). x + (4 * ceiling b 32 + 8)) (update_count-some sha256 _ l)

pub sha256-hash-fresh : (s : State) (b : ℕ) (entropy additional : List ℕ) → Sized 55 s → let d : ℕ = length (entropy ++ additional) in
    (fresh_draw sha256 Hash_DRBG s b entropy additional).blocks ≡ 2 * ((d + 5) / 64) + 8 + (ceiling b 32 + 2)
sha256-hash-fresh = fresh_draw-blocks sha256 (lit< tt) Hash_DRBG
