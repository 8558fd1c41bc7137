-- What a call and a sequence of calls are answered, and the table after them.
use Rattle.std.specs.Prelude.{List, [], ◌∷◌, ℕ, ◌%◌}
use Rattle.slots.specs.Layout.{Table}
use Rattle.slots.specs.Handle.{lowest_free}
use Rattle.table.specs.Answers.{Reply, Answer}
use Rattle.table.specs.Calls.{Call, opens, reseeds, draws, fresh_draws, closes, inquires, reply}

abbrev pub answer : Table → Call → Answer
answer t c = (reply t c).answer

abbrev pub number : Table → Call → ℕ
number t c = (answer t c).number

abbrev pub after : Table → Call → Table
after t c = (answer t c).table

-- a sequence of calls
abbrev pub run : Table → List Call → List Reply
run t [] = []
run t (c ∷ cs) = reply t c ∷ run (after t c) cs

abbrev pub after_all : Table → List Call → Table
after_all t [] = t
after_all t (c ∷ cs) = after_all (after t c) cs

-- document 01, 'Order of checks'
abbrev pub order : Call → List ℕ
order (opens mechanism strength interval fresh entropy nonce personalization) = 1 ∷ 3 ∷ 4 ∷ 5 ∷ 6 ∷ 8 ∷ 9 ∷ 13 ∷ 14 ∷ []
order (reseeds handle entropy additional) = 1 ∷ 2 ∷ 7 ∷ 8 ∷ []
order (draws handle strength out additional) = 1 ∷ 2 ∷ 10 ∷ 4 ∷ 7 ∷ 12 ∷ []
order (fresh_draws handle strength out entropy additional) = 1 ∷ 2 ∷ 10 ∷ 4 ∷ 7 ∷ 11 ∷ 8 ∷ []
order (closes handle) = 1 ∷ 2 ∷ []
order (inquires handle) = 1 ∷ 2 ∷ []

-- the slot that a call is about: the lowest free one for an opening, else its handle's
abbrev pub own : Table → Call → ℕ
own t (opens mechanism strength interval fresh entropy nonce personalization) = lowest_free t 0 16
own t (reseeds handle entropy additional) = handle % 16
own t (draws handle strength out additional) = handle % 16
own t (fresh_draws handle strength out entropy additional) = handle % 16
own t (closes handle) = handle % 16
own t (inquires handle) = handle % 16

-- the calls that give out no value
pub data NoValue : Call → Type 0 where
  reseeding : {handle : ℕ} {e a : List ℕ} → NoValue (reseeds handle e a)
  drawing : {handle strength : ℕ} {o a : List ℕ} → NoValue (draws handle strength o a)
  drawing_fresh : {handle strength : ℕ} {o e a : List ℕ} → NoValue (fresh_draws handle strength o e a)
  closing : {handle : ℕ} → NoValue (closes handle)
