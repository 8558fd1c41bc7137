-- The handles that a sequence of calls gives out, and the slots and serials of a table.
use Rattle.std.specs.Prelude.{◌≡◌, true, cond, List, [], ◌∷◌, ◌++◌, ℕ, ◌/◌, ◌<◌, eqb}
use Rattle.slots.specs.Layout.{Table, slot_at}
use Rattle.slots.specs.Handle.{in_use}
use Rattle.table.specs.Answers.{Answer}
use Rattle.table.specs.Calls.{Call, opens, reseeds, draws, fresh_draws, closes, inquires}
use Rattle.demands.specs.Calls.{answer, after}

-- a served opening gives one handle, its value
abbrev pub issued_by : Call → Answer → List ℕ
issued_by (opens mechanism strength interval fresh entropy nonce personalization) a = cond (eqb a.number 0) (a.value ∷ []) []
issued_by (reseeds handle entropy additional) a = []
issued_by (draws handle strength out additional) a = []
issued_by (fresh_draws handle strength out entropy additional) a = []
issued_by (closes handle) a = []
issued_by (inquires handle) a = []

abbrev pub issued : Table → List Call → List ℕ
issued t [] = []
issued t (c ∷ cs) = issued_by c (answer t c) ++ issued (after t c) cs

-- a number of a list
pub data Listed (n : ℕ) : List ℕ → Type 0 where
  here : {l : List ℕ} → Listed n (n ∷ l)
  there : {m : ℕ} {l : List ℕ} → Listed n l → Listed n (m ∷ l)

-- no number twice
pub data Distinct : List ℕ → Type 0 where
  none : Distinct []
  more : {n : ℕ} {l : List ℕ} → (Listed n l → ⊥) → Distinct l → Distinct (n ∷ l)

-- each handle's serial is above those before it, and above this one
pub data Rising : (serial : ℕ) → List ℕ → Type 0 where
  none : {serial : ℕ} → Rising serial []
  more : {serial handle : ℕ} {l : List ℕ} → serial < handle / 16 → Rising (handle / 16) l → Rising serial (handle ∷ l)

-- no two slots in use have the same serial
abbrev pub SerialsApart : Table → Type 0
SerialsApart t = (i j : ℕ) → i < 16 → j < 16 → in_use (slot_at t i) ≡ true → in_use (slot_at t j) ≡ true
    → (slot_at t i).serial ≡ (slot_at t j).serial → i ≡ j

-- every slot below this one is in use
abbrev pub UsedBelow : Table → ℕ → Type 0
UsedBelow t k = (i : ℕ) → i < k → in_use (slot_at t i) ≡ true
