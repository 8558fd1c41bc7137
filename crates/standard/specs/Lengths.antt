-- The lengths that the standard gives to Key, V and C (SP 800-90A §10.1, table 2), and that they are of bytes. Laws about all other
-- lengths stand in proofs/Lengths.
use Rattle.std.specs.Prelude.{◌≡◌, ℕ, length}
use Rattle.standard.specs.Strings.{Bytes}
use Rattle.standard.specs.Hash.{Hash, block_bytes, out_bytes}
use Rattle.standard.specs.State.{State}
use Rattle.standard.specs.HashDrbg.{seed_bytes}
use Rattle.standard.specs.HmacDrbg.{Keyed}
use Rattle.standard.specs.Functions.{Mechanism, HMAC_DRBG, Hash_DRBG}

-- a key made ready and V, as every update leaves them
pub record Ready (H : Hash) (u : Keyed) : Type 0 where
  pub bytes : length u.K.bytes ≡ out_bytes H
  pub K₀ : length u.K.K₀ ≡ block_bytes H
  pub v : length u.v ≡ out_bytes H

-- a state whose two fields have n bytes each
pub record Sized (n : ℕ) (s : State) : Type 0 where
  pub first : length s.first ≡ n
  pub second : length s.second ≡ n

abbrev pub state_bytes : Hash → Mechanism → ℕ
state_bytes H HMAC_DRBG = out_bytes H
state_bytes H Hash_DRBG = seed_bytes H

-- a state whose two fields are of bytes
pub record OfBytes (s : State) : Type 0 where
  pub first : Bytes s.first
  pub second : Bytes s.second
