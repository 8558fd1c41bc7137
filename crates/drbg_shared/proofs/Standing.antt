-- Working states as they stand in a slot. Assumes nothing.
use mathlib.Core.Path.{◌≡◌, ap, ◌∙◌}
use mathlib.Core.List.{List, ◌++◌, append-nil}
use Prim.Native.Nat.{ℕ}
use lib.ListN.{length, take, replicate}
use lib.Seq.{take_at}
use Rattle.standard.specs.State.{State}
use Rattle.standard.specs.Functions.{Mechanism, HMAC_DRBG, Hash_DRBG}
use Rattle.standard.specs.Sha256.{sha256}
use Rattle.standard.specs.Lengths.{Sized, state_bytes}
use Rattle.drbg_shared.specs.Generator.{field, standing, state_of}

pub field-32 : (s : List ℕ) → length s ≡ 32 → field s ≡ s ++ replicate 23 0
unfolding field
field-32 s size = rw size

pub field-55 : (s : List ℕ) → length s ≡ 55 → field s ≡ s
unfolding field
field-55 s size = rw size (append-nil s)

-- a state of the right lengths stands in a slot and is found there again
pub state_of-standing : (mechanism : Mechanism) (s : State) → Sized (state_bytes sha256 mechanism) s → state_of mechanism (standing s) ≡ s
unfolding state_of standing
state_of-standing HMAC_DRBG s sized =
    let first : take 32 (field s.first) ≡ s.first =
    ap (take 32) (field-32 s.first sized.first) ∙ take_at s.first (replicate 23 0) 32 sized.first in
    let second : take 32 (field s.second) ≡ s.second =
    ap (take 32) (field-32 s.second sized.second) ∙ take_at s.second (replicate 23 0) 32 sized.second in
    λ i. record { first = first i; second = second i; counter = s.counter }
state_of-standing Hash_DRBG s sized =
    λ i. record { first = field-55 s.first sized.first i; second = field-55 s.second sized.second i; counter = s.counter }
