-- Demand 3: calls alike in kind, handle, settings and all lengths, with any bytes; tables alike in all numbers; and what is told.
use Rattle.std.specs.Prelude.{◌≡◌, Bool, List, [], ◌∷◌, map, ℕ, length}
use Rattle.slots.specs.Layout.{Table, slot_at, last_serial}
use Rattle.slots.specs.declared.slot.Slot.{Slot}
use Rattle.table.specs.Answers.{Answer, Reply}
use Rattle.table.specs.Calls.{Call, opens, reseeds, draws, fresh_draws, closes, inquires}
use Rattle.table.specs.OnBytes.{Told, Done}
use Rattle.demands.specs.Calls.{run}
use Rattle.demands.specs.InBytes.{in_bytes_all}

pub data Alike : Call → Call → Type 0 where
  openings : {mechanism strength interval : ℕ} {fresh : Bool} {e e' n n' p p' : List ℕ} → length e ≡ length e' → length n ≡ length n'
      → length p ≡ length p' → Alike (opens mechanism strength interval fresh e n p) (opens mechanism strength interval fresh e' n' p')
  reseedings : {handle : ℕ} {e e' a a' : List ℕ} → length e ≡ length e' → length a ≡ length a'
      → Alike (reseeds handle e a) (reseeds handle e' a')
  drawings : {handle strength : ℕ} {o o' a a' : List ℕ} → length o ≡ length o' → length a ≡ length a'
      → Alike (draws handle strength o a) (draws handle strength o' a')
  fresh_drawings : {handle strength : ℕ} {o o' e e' a a' : List ℕ} → length o ≡ length o' → length e ≡ length e' → length a ≡ length a'
      → Alike (fresh_draws handle strength o e a) (fresh_draws handle strength o' e' a')
  closings : {handle : ℕ} → Alike (closes handle) (closes handle)
  inquiries : {handle : ℕ} → Alike (inquires handle) (inquires handle)

-- call by call
pub data AllAlike : List Call → List Call → Type 0 where
  none : AllAlike [] []
  more : {c d : Call} {cs ds : List Call} → Alike c d → AllAlike cs ds → AllAlike (c ∷ cs) (d ∷ ds)

-- the same numbers in two slots, and in every slot of two tables
pub record SameNumbers (s u : Slot) : Type 0 where
  pub mechanism : s.mechanism ≡ u.mechanism
  pub strength : s.strength ≡ u.strength
  pub interval : s.interval ≡ u.interval
  pub counter : s.counter ≡ u.counter
  pub fresh : s.fresh ≡ u.fresh
  pub serial : s.serial ≡ u.serial

pub record AlikeTables (t u : Table) : Type 0 where
  pub last : last_serial t ≡ last_serial u
  pub slots : (i : ℕ) → SameNumbers (slot_at t i) (slot_at u i)

-- what is told of a call besides the drawn bytes: answer number, block count, and value (the handle given out, or the draws left)
abbrev pub told_of : Answer → Told
told_of a = record { number = a.number; blocks = a.blocks; value = a.value }

abbrev pub told : Table → List Call → List Told
told t cs = map (λ (r : Reply). told_of r.answer) (run t cs)

-- the same of a call on the caller's bytes
abbrev pub told_by : Done → Told
told_by d = d.told

abbrev pub told_in_bytes : (s : List ℕ) → List Call → List Told
told_in_bytes s cs = map told_by (in_bytes_all s cs)

-- two answers that tell the same and leave tables alike
pub record SameOutcome (a b : Answer) : Type 0 where
  pub number : a.number ≡ b.number
  pub blocks : a.blocks ≡ b.blocks
  pub value : a.value ≡ b.value
  pub tables : AlikeTables a.table b.table
