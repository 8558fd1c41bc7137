-- The fields of steps are read as those steps, and fields that stand in the published order are the fields of steps: by recursion, a
-- step at a time. Assumes nothing.
use Prim.Native.Nat.{ℕ}
use mathlib.Core.Path.{◌≡◌, refl, sym, ap, subst}
use mathlib.Core.Bool.{Bool, true, false, ◌&&◌, ◌||◌}
use mathlib.Core.List.{List, [], ◌∷◌, ◌++◌}
use borrow.Author.Tests.{eqb-true}
use lib.Dec.{eqb}
use Rattle.rsp_case.specs.Cases.{Step, draws, fresh_draws, reseeds, Field, ◌is◌, step_fields, steps_fields, steps_of}
use Rattle.rsp_case.specs.Points.{drawn, stepped, follows}
use Rattle.rsp_case.specs.Written.{is_draw, ends_drawn}
use Rattle.std.proofs.lemmas.Bool.{and_parts}

pub steps-read : (steps : List Step) → steps_of (steps_fields steps) ≡ steps
unfolding steps_of steps_fields
steps-read [] = refl
steps-read (draws a ∷ []) = refl
steps-read (draws a ∷ draws b ∷ steps) = ap (λ l. draws a ∷ l) (steps-read (draws b ∷ steps))
steps-read (draws a ∷ fresh_draws e b ∷ steps) = ap (λ l. draws a ∷ l) (steps-read (fresh_draws e b ∷ steps))
steps-read (draws a ∷ reseeds e b ∷ steps) = ap (λ l. draws a ∷ l) (steps-read (reseeds e b ∷ steps))
steps-read (fresh_draws e a ∷ steps) = ap (λ l. fresh_draws e a ∷ l) (steps-read steps)
steps-read (reseeds e a ∷ steps) = ap (λ l. reseeds e a ∷ l) (steps-read steps)

-- ---- the published order, row by row; what was returned ends it

pub data Drawn : (last : ℕ) → Type 0 where
  by_input : Drawn 4
  by_fresh : Drawn 8

pub data Stepped : (last : ℕ) → Type 0 where
  opened : Stepped 3
  behind-draw : {last : ℕ} → Drawn last → Stepped last
  behind-reseed : Stepped 7

pub data Follows : (last name : ℕ) → Type 0 where
  entropy : Follows 9 1
  nonce : Follows 1 2
  personalization : Follows 2 3
  draw : {last : ℕ} → Stepped last → Follows last 4
  reseed : {last : ℕ} → Stepped last → Follows last 6
  reseeded : Follows 6 7
  freshened : Follows 4 8

pub data May : (last name : ℕ) → Type 0 where
  field : {last name : ℕ} → Follows last name → May last name
  returned : {last : ℕ} → Drawn last → May last 5

pub drawn-follows : {last : ℕ} → Drawn last → follows last 5 ≡ true
unfolding follows
drawn-follows by_input = refl
drawn-follows by_fresh = refl

-- where a field may stand, and that it is neither what was returned nor none
pub follows_is : {last name : ℕ} → Follows last name → (follows last name ≡ true) × (eqb name 5 ≡ false) × (eqb name 0 ≡ false)
unfolding follows
follows_is entropy = (refl, refl, refl)
follows_is nonce = (refl, refl, refl)
follows_is personalization = (refl, refl, refl)
follows_is (draw opened) = (refl, refl, refl)
follows_is (draw (behind-draw by_input)) = (refl, refl, refl)
follows_is (draw (behind-draw by_fresh)) = (refl, refl, refl)
follows_is (draw behind-reseed) = (refl, refl, refl)
follows_is (reseed opened) = (refl, refl, refl)
follows_is (reseed (behind-draw by_input)) = (refl, refl, refl)
follows_is (reseed (behind-draw by_fresh)) = (refl, refl, refl)
follows_is (reseed behind-reseed) = (refl, refl, refl)
follows_is reseeded = (refl, refl, refl)
follows_is freshened = (refl, refl, refl)

one_of : {P : Type 0} (a b : Bool) → (a ≡ true → P) → (b ≡ true → P) → (a || b) ≡ true → P
one_of true b first second h = first refl
one_of false b first second h = second h

row : (P : ℕ → Type 0) {n : ℕ} (k : ℕ) → P k → eqb n k ≡ true → P n
row P {n} k p same = subst P (sym (eqb-true n k same)) p

drawn-is : (last : ℕ) → drawn last ≡ true → Drawn last
drawn-is last = one_of (eqb last 4) (eqb last 8) (row Drawn 4 by_input) (row Drawn 8 by_fresh)

stepped-is : (last : ℕ) → stepped last ≡ true → Stepped last
stepped-is last =
    one_of (eqb last 3 || drawn last) (eqb last 7)
    (one_of (eqb last 3) (drawn last) (row Stepped 3 opened) (λ h. behind-draw (drawn-is last h)))
    (row Stepped 7 behind-reseed)

pub may_follow : (last name : ℕ) → follows last name ≡ true → May last name
unfolding follows
may_follow last name =
    one_of _ _
    (one_of _ _
    (one_of _ _
    (one_of _ _ (one_of _ _ (one_of _ _ (only 1 9 (field entropy)) (only 2 1 (field nonce))) (only 3 2 (field personalization))) steps)
    (only 7 6 (field reseeded)))
    (only 8 4 (field freshened)))
    (λ h.
    row (May last) 5 (returned (drawn-is last ((and_parts (eqb name 5) (drawn last) h).1))) ((and_parts (eqb name 5) (drawn last) h).0))
  where
    only : (n k : ℕ) → May k n → (eqb name n && eqb last k) ≡ true → May last name
    only n k m h =
        row (λ l. May l name) k (row (May k) n m ((and_parts (eqb name n) (eqb last k) h).0)) ((and_parts (eqb name n) (eqb last k) h).1)

    steps : ((eqb name 4 || eqb name 6) && stepped last) ≡ true → May last name
    steps h =
        let behind = stepped-is last ((and_parts (eqb name 4 || eqb name 6) (stepped last) h).1) in
        one_of (eqb name 4) (eqb name 6) (row (May last) 4 (field (draw behind))) (row (May last) 6 (field (reseed behind)))
        ((and_parts (eqb name 4 || eqb name 6) (stepped last) h).0)

-- ---- fields in that order, up to what was returned

pub data Along : (last : ℕ) → List Field → Type 0 where
  done : {last : ℕ} → Drawn last → Along last []
  more : {last name : ℕ} {value : List ℕ} {fields : List Field} → Follows last name → Along name fields
      → Along last ((name is value) ∷ fields)

-- the fields of steps are so
steps_along : {last : ℕ} (steps : List Step) → Stepped last → ends_drawn (drawn last) steps ≡ true → Along last (steps_fields steps)
unfolding steps_fields ends_drawn
steps_along {last} [] behind ends = done (drawn-is last ends)
steps_along (draws a ∷ steps) behind ends = more (draw behind) (steps_along steps (behind-draw by_input) ends)
steps_along (fresh_draws e a ∷ steps) behind ends =
    more (draw behind) (more freshened (steps_along steps (behind-draw by_fresh) ends))
steps_along (reseeds e a ∷ steps) behind ends = more (reseed behind) (more reseeded (steps_along steps behind-reseed ends))

pub opening_along : {e n p : List ℕ} (steps : List Step) → ends_drawn false steps ≡ true
    → Along 9 ((1 is e) ∷ (2 is n) ∷ (3 is p) ∷ steps_fields steps)
opening_along steps ends = more entropy (more nonce (more personalization (steps_along steps opened ends)))

-- fields that are so are those of steps
record Steps (before : Bool) (fields : List Field) : Type 0 where
  steps : List Step
  are : fields ≡ steps_fields steps
  ends : ends_drawn before steps ≡ true

pub record Opening (fields : List Field) : Type 0 where
  pub entropy : List ℕ
  pub nonce : List ℕ
  pub personalization : List ℕ
  pub steps : List Step
  pub are : fields ≡ (1 is entropy) ∷ (2 is nonce) ∷ (3 is personalization) ∷ steps_fields steps
  pub ends : ends_drawn false steps ≡ true

step-first : (s : Step) {fields : List Field} → Steps (is_draw s) fields → (before : Bool) → Steps before (step_fields s ++ fields)
unfolding steps_fields ends_drawn
step-first s rest before = record { steps = s ∷ rest.steps; are = ap (λ l. step_fields s ++ l) rest.are; ends = rest.ends }

-- what stands behind a field is told with the fields that its step or the opening began with
data Behind : (last : ℕ) → List Field → Type 0 where
  of_count : {fields : List Field} → Opening fields → Behind 9 fields
  of-entropy : {fields : List Field} → ((e : List ℕ) → Opening ((1 is e) ∷ fields)) → Behind 1 fields
  of-nonce : {fields : List Field} → ((e n : List ℕ) → Opening ((1 is e) ∷ (2 is n) ∷ fields)) → Behind 2 fields
  of_opening : {fields : List Field} → Steps false fields → Behind 3 fields
  of_draw : {fields : List Field} → ((a : List ℕ) (before : Bool) → Steps before ((4 is a) ∷ fields)) → Behind 4 fields
  of_entropy_again : {fields : List Field} → ((e : List ℕ) (before : Bool) → Steps before ((6 is e) ∷ fields)) → Behind 6 fields
  of_reseed : {fields : List Field} → Steps false fields → Behind 7 fields
  of-fresh : {fields : List Field} → Steps true fields → Behind 8 fields

-- a step begins here
begins : {last : ℕ} {fields : List Field} → Stepped last → ((before : Bool) → Steps before fields) → Behind last fields
begins opened steps = of_opening (steps false)
begins (behind-draw by_input) steps = of_draw (λ a before. step-first (draws a) (steps true) before)
begins (behind-draw by_fresh) steps = of-fresh (steps true)
begins behind-reseed steps = of_reseed (steps false)

further : {last name : ℕ} {fields : List Field} (value : List ℕ) → Follows last name → Behind name fields
    → Behind last ((name is value) ∷ fields)
further value entropy (of-entropy all) = of_count (all value)
further value nonce (of-nonce all) = of-entropy (λ e. all e value)
further value personalization (of_opening rest) =
    of-nonce
    (λ e n.
    record {
      entropy = e;
      nonce = n;
      personalization = value;
      steps = rest.steps;
      are = ap (λ l. (1 is e) ∷ (2 is n) ∷ (3 is value) ∷ l) rest.are;
      ends = rest.ends;
    })
further value (reseed behind) (of_entropy_again all) = begins behind (all value)
further value (draw behind) (of_draw all) = begins behind (all value)
further value reseeded (of_reseed rest) = of_entropy_again (λ e before. step-first (reseeds e value) rest before)
further value freshened (of-fresh rest) = of_draw (λ a before. step-first (fresh_draws value a) rest before)

along_behind : {last : ℕ} {fields : List Field} → Along last fields → Behind last fields
unfolding steps_fields ends_drawn
along_behind (done by_input) = of_draw (λ a before. record { steps = draws a ∷ []; are = refl; ends = refl })
along_behind (done by_fresh) = of-fresh (record { steps = []; are = refl; ends = refl })
along_behind (more {value = value} follows rest) = further value follows (along_behind rest)

pub along_opening : {fields : List Field} → Along 9 fields → Opening fields
along_opening along = go (along_behind along)
  where
    go : {fields : List Field} → Behind 9 fields → Opening fields
    go (of_count all) = all
