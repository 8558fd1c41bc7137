-- How a call comes out, refused by a reason or served, and what a served call leaves under its handle.
use Rattle.std.specs.Prelude.{◌≡◌, List, [], ◌∷◌, ℕ, suc, ◌+◌}
use Rattle.standard.specs.State.{State}
use Rattle.drbg_shared.specs.Generator.{standing}
use Rattle.slots.specs.Layout.{Table, last_serial}
use Rattle.slots.specs.Handle.{handle_of, slot_of, lowest_free}
use Rattle.slots.specs.declared.slot.Slot.{Slot}
use Rattle.reasons.specs.Reasons.{Reasons, served, ◌when◌else◌, NoneHolds, First}
use Rattle.table.specs.Answers.{Answer, Reply, with_generator}
use Rattle.table.specs.Served.{state_in}
use Rattle.table.specs.Calls.{Call, reasons_of, refusal, service}
use Rattle.demands.specs.Draws.{left}

-- the numbers of a list of reasons, in their order
abbrev pub numbers_of : Reasons → List ℕ
numbers_of served = []
numbers_of (number when holds else rest) = number ∷ numbers_of rest

-- all that a call can be answered: its service where no reason holds, else a refusal with the number, above 0, of the first that does
pub data Answered (t : Table) (c : Call) (r : Reply) : Type 0 where
  serves : NoneHolds (reasons_of t c) → r ≡ service t c → Answered t c r
  refuses : (n : ℕ) → First (suc n) (reasons_of t c) → r ≡ refusal t c (suc n) → Answered t c r

-- the generator under the handle has made its step to this state, and the rest of its slot is as it was
pub record Follows (t : Table) (h : ℕ) (a : Answer) (st : State) (blocks : ℕ) : Type 0 where
  pub slot : slot_of a.table h ≡ with_generator (slot_of t h) (standing st)
  pub state : state_in (slot_of a.table h) ≡ st
  pub counted : a.blocks ≡ blocks

-- a new generator stands in this slot with this state, under the handle that is given out
pub record Begins (t : Table) (a : Answer) (new : Slot) (st : State) (blocks : ℕ) : Type 0 where
  pub handle : a.value ≡ handle_of (last_serial t + 1) (lowest_free t 0 16)
  pub slot : slot_of a.table a.value ≡ new
  pub state : state_in (slot_of a.table a.value) ≡ st
  pub next_serial : last_serial a.table ≡ last_serial t + 1
  pub counted : a.blocks ≡ blocks
  pub all_left : left a.value a.table ≡ new.interval
