-- Calls where the table stands in the caller's bytes: a sequence of them, the reasons of one, the bytes that it leaves alone, and what
-- it is by value.
use Rattle.std.specs.Prelude.{not, ◌≢◌, List, [], ◌∷◌, ℕ, ◌/◌, ◌≤◌, ◌<◌, eqb, length}
use Rattle.slots.specs.Sizes.{slot_size, last_at, table_size}
use Rattle.slots.specs.Layout.{Table}
use Rattle.slots.specs.Bytes.{table_of}
use Rattle.reasons.specs.Reasons.{Reasons, ◌when◌else◌}
use Rattle.table.specs.Answers.{Reply}
use Rattle.table.specs.Calls.{Call, lent, reasons_of, Under}
use Rattle.table.specs.OnBytes.{Done, told_refused, in_bytes}
use Rattle.demands.specs.Calls.{own}

-- a sequence of calls, each on the bytes that the last one left
abbrev pub in_bytes_all : (s : List ℕ) → List Call → List Done
in_bytes_all s [] = []
in_bytes_all s (c ∷ cs) = in_bytes c s ∷ in_bytes_all (in_bytes c s).table cs

-- the reasons of a call on bytes: bytes of another length are no table, which is refused before all else
abbrev pub reasons_in : (s : List ℕ) → Call → Reasons
reasons_in s c = 1 when not (eqb (length s) table_size) else reasons_of (table_of s) c

-- refused on bytes: these and the lent output as they were, 0 blocks and value 0
abbrev pub refusal_in : (s : List ℕ) → Call → (n : ℕ) → Done
refusal_in s c n = record { told = told_refused n; table = s; output = lent c }

-- a byte that a call leaves alone: of another slot than its own, or, for a call under a handle (all but an opening), of the last serial
pub data LeftAlone (t : Table) (c : Call) (at : ℕ) : Type 0 where
  another_slot : at < last_at → at / slot_size ≢ own t c → LeftAlone t c at
  last-serial : {handle : ℕ} → last_at ≤ at → Under handle c → LeftAlone t c at

-- what a call on bytes did, as the reply to the table that they are
abbrev pub replied_with : Done → Reply
replied_with d =
    record {
      answer = record { number = d.told.number; table = table_of d.table; blocks = d.told.blocks; value = d.told.value };
      output = d.output;
    }
