-- The draws that a sequence of calls is served under a handle, and its reseeds.
use Rattle.std.specs.Prelude.{◌≡◌, Bool, false, ◌&&◌, cond, List, [], ◌∷◌, ℕ, ◌+◌, ◌-◌, eqb}
use Rattle.slots.specs.Handle.{slot_of}
use Rattle.slots.specs.Layout.{Table}
use Rattle.table.specs.Answers.{Answer}
use Rattle.table.specs.Calls.{Call, opens, reseeds, draws, fresh_draws, closes, inquires}
use Rattle.demands.specs.Calls.{answer, after}

-- draws left = interval + 1 − counter
abbrev pub left : (handle : ℕ) → Table → ℕ
left handle t = (slot_of t handle).interval + 1 - (slot_of t handle).counter

-- 1 for a served draw under the handle
abbrev pub drew_by : (handle : ℕ) → Call → Answer → ℕ
drew_by h (opens mechanism strength interval fresh entropy nonce personalization) a = 0
drew_by h (reseeds handle entropy additional) a = 0
drew_by h (draws handle strength out additional) a = cond (eqb a.number 0 && eqb handle h) 1 0
drew_by h (fresh_draws handle strength out entropy additional) a = 0
drew_by h (closes handle) a = 0
drew_by h (inquires handle) a = 0

abbrev pub draws_served : (handle : ℕ) → Table → List Call → ℕ
draws_served h t [] = 0
draws_served h t (c ∷ cs) = drew_by h c (answer t c) + draws_served h (after t c) cs

-- a served reseed or fresh draw under the handle
abbrev pub reseeded_by : (handle : ℕ) → Call → Answer → Bool
reseeded_by h (opens mechanism strength interval fresh entropy nonce personalization) a = false
reseeded_by h (reseeds handle entropy additional) a = eqb a.number 0 && eqb handle h
reseeded_by h (draws handle strength out additional) a = false
reseeded_by h (fresh_draws handle strength out entropy additional) a = eqb a.number 0 && eqb handle h
reseeded_by h (closes handle) a = false
reseeded_by h (inquires handle) a = false

-- none in the whole sequence
pub data NoReseed (handle : ℕ) : Table → List Call → Type 0 where
  none : {t : Table} → NoReseed handle t []
  more : {t : Table} {c : Call} {cs : List Call} → reseeded_by handle c (answer t c) ≡ false → NoReseed handle (after t c) cs
      → NoReseed handle t (c ∷ cs)
