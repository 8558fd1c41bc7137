-- Document 01: an answer carries the number, the table, a block count and a value; and what a served call makes of the table.
use Rattle.std.specs.Prelude.{ℕ, Bool, cond, List}
use Rattle.drbg_shared.specs.Generator.{Generator, Served, Filled}
use Rattle.slots.specs.Layout.{slot_at, with_slot, with_last_serial, Table}
use Rattle.slots.specs.Handle.{handle_of}
use Rattle.slots.specs.declared.slot.Slot.{Slot}

pub record Answer : Type 0 where
  pub number : ℕ
  pub table : Table
  pub blocks : ℕ
  pub value : ℕ

-- 1 to 14: the table comes back equal, count and value are 0
abbrev pub refused : Table → (number : ℕ) → Answer
refused t number = record { number = number; table = t; blocks = 0; value = 0 }

abbrev pub accepted : Table → (blocks value : ℕ) → Answer
accepted t blocks value = record { number = 0; table = t; blocks = blocks; value = value }

-- the answer to a call, and what the lent output then holds; a call that lends none has an empty one
pub record Reply : Type 0 where
  pub answer : Answer
  pub output : List ℕ

-- the generator that a slot holds
abbrev pub generator_of : Slot → Generator
generator_of s = record { first = s.first; second = s.second; counter = s.counter }

abbrev pub with_generator : Slot → Generator → Slot
with_generator s g =
    record {
      mechanism = s.mechanism;
      strength = s.strength;
      interval = s.interval;
      counter = g.counter;
      fresh = s.fresh;
      serial = s.serial;
      first = g.first;
      second = g.second;
    }

-- the generator in slot i has made its step
unfoldable pub stepped : Table → (i : ℕ) → Served → Answer
stepped t i r = accepted (with_slot t i (with_generator (slot_at t i) r.generator)) r.blocks 0

abbrev pub stepped_draw : Table → (i : ℕ) → Filled → Reply
stepped_draw t i r = record { answer = stepped t i r.served; output = r.output }

-- a new generator in slot i, with the next serial
abbrev pub new_slot : (mechanism strength interval : ℕ) (fresh : Bool) (serial : ℕ) → Generator → Slot
new_slot mechanism strength interval fresh serial g =
    record {
      mechanism = mechanism;
      strength = strength;
      interval = interval;
      counter = g.counter;
      fresh = cond fresh 1 0;
      serial = serial;
      first = g.first;
      second = g.second;
    }

unfoldable pub installed : Table → (i serial : ℕ) → Slot → (blocks : ℕ) → Answer
installed t i serial s blocks = accepted (with_last_serial (with_slot t i s) serial) blocks (handle_of serial i)
