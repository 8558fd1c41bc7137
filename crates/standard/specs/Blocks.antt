-- Document 01, 'Blocks': how many blocks each function consumes, in closed form, and the bound on all of them. Over any `Hash`; for SHA-256
-- a block has 64 bytes and a length field 8, ten words and a byte are 41, two words and five bytes 13: the document's own numbers.
-- That the definitions consume as many is proved in proofs/Counts and proofs/Bound.
use Rattle.std.specs.Prelude.{List, ℕ, zero, suc, ◌+◌, ◌*◌, ◌/◌, ◌≤◌, length}
use Rattle.standard.specs.Strings.{ceiling}
use Rattle.standard.specs.Hash.{Hash, block_bytes, out_bytes, length_bytes}
use Rattle.standard.specs.Sha256.{sha256}
use Rattle.standard.specs.State.{State}
use Rattle.standard.specs.Functions.{Mechanism, HMAC_DRBG, Hash_DRBG, opening, reseeding, draw, fresh_draw}
use Rattle.standard.specs.Lengths.{Sized, state_bytes}

-- a hash, and an HMAC under a key of at most a block, of n bytes
abbrev pub hash_count : Hash → (n : ℕ) → ℕ
hash_count H n = (n + length_bytes H) / block_bytes H + 1

abbrev pub hmac_count : Hash → (n : ℕ) → ℕ
hmac_count H n = (n + length_bytes H) / block_bytes H + 4

-- d: bytes of seed material (a reseed's are entropy and additional input); b: bytes drawn; a: bytes of additional input
abbrev pub update_count : Hash → (d : ℕ) → ℕ
update_count H zero = 8
update_count H (suc d) = 2 * ((suc d + (10 * H.word_bytes + 1)) / block_bytes H) + 16

abbrev pub open_count : Hash → Mechanism → (d : ℕ) → ℕ
open_count H HMAC_DRBG d = update_count H d
open_count H Hash_DRBG d = 2 * ((d + (2 * H.word_bytes + 5)) / block_bytes H) + 6

abbrev pub reseed_count : Hash → Mechanism → (d : ℕ) → ℕ
reseed_count H HMAC_DRBG d = update_count H d
reseed_count H Hash_DRBG d = 2 * ((d + 5) / block_bytes H) + 8

abbrev pub draw_count : Hash → Mechanism → (b a : ℕ) → ℕ
draw_count H HMAC_DRBG b zero = 4 * ceiling b (out_bytes H) + 8
draw_count H HMAC_DRBG b (suc a) = 4 * ceiling b (out_bytes H) + 4 * ((suc a + (10 * H.word_bytes + 1)) / block_bytes H) + 32
draw_count H Hash_DRBG b zero = ceiling b (out_bytes H) + 2
draw_count H Hash_DRBG b (suc a) = ceiling b (out_bytes H) + suc a / block_bytes H + 4

abbrev pub fresh_draw_count : Hash → Mechanism → (b d : ℕ) → ℕ
fresh_draw_count H mechanism b d = reseed_count H mechanism d + draw_count H mechanism b 0

-- no function consumes more than 8,288 blocks, given what document 01 lets it be given
pub record Bounded (mechanism : Mechanism) : Type 0 where
  pub opening : (entropy nonce personalization : List ℕ) → length entropy ≤ 1024 → length nonce ≤ 64 → length personalization ≤ 512
      → (opening sha256 mechanism entropy nonce personalization).blocks ≤ 8288
  pub reseeding : (s : State) (entropy additional : List ℕ) → Sized (state_bytes sha256 mechanism) s
      → length entropy ≤ 1024 → length additional ≤ 1024 → (reseeding sha256 mechanism s entropy additional).blocks ≤ 8288
  pub draw : (s : State) (n : ℕ) (additional : List ℕ) → Sized (state_bytes sha256 mechanism) s → n ≤ 65536 → length additional ≤ 1024
      → (draw sha256 mechanism s n additional).blocks ≤ 8288
  pub fresh_draw : (s : State) (n : ℕ) (entropy additional : List ℕ) → Sized (state_bytes sha256 mechanism) s → n ≤ 65536
      → length entropy ≤ 1024 → length additional ≤ 1024 → (fresh_draw sha256 mechanism s n entropy additional).blocks ≤ 8288
