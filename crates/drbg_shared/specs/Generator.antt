-- A generator as it stands in a slot: two fields of 55 bytes and the reseed counter, beside the standard's working state.
-- HMAC_DRBG uses the first 32 bytes of each field (K, V) and the other 23 are zero; Hash_DRBG uses all (V, C).
use Rattle.std.specs.Prelude.{ℕ, ◌-◌, ◌≡◌, List, ◌++◌, length, take, replicate}
use Rattle.standard.specs.Metered.{Metered}
use Rattle.standard.specs.State.{State, Drawn}
use Rattle.standard.specs.Functions.{Mechanism, HMAC_DRBG, Hash_DRBG}

pub record Generator : Type 0 where
  pub first : List ℕ
  pub second : List ℕ
  pub counter : ℕ

-- a generator's successor, and the blocks that were consumed for it
pub record Served : Type 0 where
  pub generator : Generator
  pub blocks : ℕ

-- both as the code has them: the two fields lent in place, the numbers by value
abbrev pub holding : (first second : List ℕ) (counter : ℕ) → Generator
holding first second counter = record { first = first; second = second; counter = counter }

abbrev pub led_on : (first second : List ℕ) (counter blocks : ℕ) → Served
led_on first second counter blocks = record { generator = holding first second counter; blocks = blocks }

-- fields of a slot
abbrev pub Fields : (first second : List ℕ) → Type 0
Fields first second = (length first ≡ 55) × (length second ≡ 55)

-- the working state that a generator holds
unfoldable pub state_of : Mechanism → Generator → State
state_of HMAC_DRBG g = record { first = take 32 g.first; second = take 32 g.second; counter = g.counter }
state_of Hash_DRBG g = record { first = g.first; second = g.second; counter = g.counter }

-- a string as a field, zeros behind it
unfoldable pub field : List ℕ → List ℕ
field s = s ++ replicate (55 - length s) 0

unfoldable pub standing : State → Generator
standing s = record { first = field s.first; second = field s.second; counter = s.counter }

-- what an opening and a reseed hand back
unfoldable pub served : Metered State → Served
served m = record { generator = standing m.value; blocks = m.blocks }

-- what a draw hands back, with what the lent output then holds
pub record Filled : Type 0 where
  pub served : Served
  pub output : List ℕ

unfoldable pub filled : Metered Drawn → Filled
filled m = record { served = record { generator = standing m.value.state; blocks = m.blocks }; output = m.value.bytes }
