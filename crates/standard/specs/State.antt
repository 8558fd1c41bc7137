-- SP 800-90A §10.1.1.1 and 10.1.2.1: the working state of a generator, and what a draw gives.
-- HMAC_DRBG: first is Key and second is V. Hash_DRBG: first is V and second is C.
use Rattle.std.specs.Prelude.{ℕ, List}

pub record State : Type 0 where
  pub first : List ℕ
  pub second : List ℕ
  pub counter : ℕ

pub record Drawn : Type 0 where
  pub bytes : List ℕ
  pub state : State
