-- SP 800-90A §11.3, known-answer tests: what a case is, and whether it holds by the calls' own definition.
use Rattle.std.specs.Prelude.{ℕ, suc, ◌≡◌, Bool, true, false, ◌&&◌, cond, List, [], ◌∷◌, eqb, replicate}
use Rattle.slots.specs.Sizes.{table_size}
use Rattle.table.specs.Calls.{Call, opens, reseeds, draws, fresh_draws, lent}
use Rattle.table.specs.OnBytes.{in_bytes}
use Rattle.same.specs.Same.{same}

-- calls on the fresh table, one after the other, and then a last one, whose outcome is known
infix 5 ◌then◌gives◌
infix 5 ◌then◌refuses◌
pub data Case : Type 0 where
  -- it is served, and the output then holds these bytes
  ◌then◌gives◌ : (before : List Call) (last : Call) (bytes : List ℕ) → Case
  -- it is refused with this number, and no byte of the table or of the output is changed
  ◌then◌refuses◌ : (before : List Call) (last : Call) (number : ℕ) → Case

-- the table's bytes after calls, each on those that the one before it left
abbrev pub after : (s : List ℕ) → List Call → List ℕ
after s [] = s
after s (c ∷ calls) = after (in_bytes c s).table calls

unfoldable pub holds : Case → Bool
holds (before then last gives bytes) =
    let s = after (replicate table_size 0) before in
    eqb (in_bytes last s).told.number 0 && same (in_bytes last s).output bytes
holds (before then last refuses number) =
    let s = after (replicate table_size 0) before in
    eqb (in_bytes last s).told.number number && same (in_bytes last s).table s && same (in_bytes last s).output (lent last)

-- the same as a statement
abbrev pub Holds : Case → Type 0
Holds (before then last gives bytes) =
    let s = after (replicate table_size 0) before in
    ((in_bytes last s).told.number ≡ 0) × ((in_bytes last s).output ≡ bytes)
Holds (before then last refuses number) =
    let s = after (replicate table_size 0) before in
    ((in_bytes last s).told.number ≡ number) × ((in_bytes last s).table ≡ s) × ((in_bytes last s).output ≡ lent last)

abbrev pub AllHold : List Case → Type 0
AllHold [] = Unit {0}
AllHold (c ∷ cases) = Holds c × AllHold cases

-- the first case that does not hold, counted from n; 0 where all hold
unfoldable pub first_from : (n : ℕ) → List Case → ℕ
first_from n [] = 0
first_from n (c ∷ cases) = cond (holds c) (first_from (suc n) cases) n

-- the strings of NIST's cases, each numbered by the call that takes it: without prediction resistance (pr_false) ..
pub record Reseeded : Type 0 where
  pub entropy1 : List ℕ
  pub nonce : List ℕ
  pub personalization : List ℕ
  pub entropy2 : List ℕ
  pub additional2 : List ℕ
  pub additional3 : List ℕ
  pub additional4 : List ℕ
  pub returned : List ℕ

-- .. and with it (pr_true)
pub record Fresh : Type 0 where
  pub entropy1 : List ℕ
  pub nonce : List ℕ
  pub personalization : List ℕ
  pub entropy2 : List ℕ
  pub additional2 : List ℕ
  pub entropy3 : List ℕ
  pub additional3 : List ℕ
  pub returned : List ℕ

-- a draw is one of 128 bytes, and is lent zeros
abbrev pub blank : List ℕ
blank = replicate 128 0

-- handle 16 is the fresh table's first: serial 1, slot 0
unfoldable pub reseeded : (mechanism : ℕ) → Reseeded → Case
reseeded mechanism p =
    opens mechanism 256 2 false p.entropy1 p.nonce p.personalization ∷
    reseeds 16 p.entropy2 p.additional2 ∷
    draws 16 256 blank p.additional3 ∷
    []
    then draws 16 256 blank p.additional4 gives p.returned

unfoldable pub fresh : (mechanism : ℕ) → Fresh → Case
fresh mechanism p =
    opens mechanism 256 2 true p.entropy1 p.nonce p.personalization ∷
    fresh_draws 16 256 blank p.entropy2 p.additional2 ∷
    []
    then fresh_draws 16 256 blank p.entropy3 p.additional3 gives p.returned

-- handle 32 names slot 0 too, under a serial that was not given. What is lent is no blank, so that clearing it would be seen
unfoldable pub refused : (mechanism : ℕ) (entropy nonce personalization additional : List ℕ) → Case
refused mechanism entropy nonce personalization additional =
    opens mechanism 256 2 false entropy nonce personalization ∷
    []
    then draws 32 256 (replicate 128 0xa5) additional refuses 2
