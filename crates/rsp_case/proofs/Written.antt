-- The lines of a case are read as that case: each heading, COUNT and field goes on as the definitions say. Assumes nothing.
use Prim.Native.Nat.{ℕ, ◌+◌, ◌≤◌}
use mathlib.Core.Path.{◌≡◌, refl, sym, ap, subst, ◌∙◌}
use mathlib.Core.Bool.{true, false}
use mathlib.Core.List.{List, [], ◌∷◌, ◌++◌, append-nil, append_assoc}
use native.Mathlib.Omega.{arith}
use borrow.Author.Tests.{le-leb}
use lib.Dec.{eqb}
use lib.ListN.{length}
use Rattle.rsp_line.specs.Lines.{Says, nothing, counts, gives}
use Rattle.rsp_case.specs.Cases.{Field, ◌is◌, Case, case_of, fields_of}
use Rattle.rsp_case.specs.Store.{stored}
use Rattle.rsp_case.specs.Heads.{length_for, fits}
use Rattle.rsp_case.specs.Points.{follows, headed, counted, taken, given}
use Rattle.rsp_case.specs.Reading.{State, taken_as, takes, goes, whole}
use Rattle.rsp_case.specs.Written.{all_fields, fields_said, Headings, none, of_hash, of_fresh, of_length, all_fit}
use Rattle.rsp_case.specs.Written.{Lines, final, line, blank, CaseLines, ReadAs, ends, goes_on, between}
use Rattle.rsp_case.specs.declared.heads.Heads.{Heads}
use Rattle.std.proofs.lemmas.Bool.{and_parts}
use Rattle.rsp_case.proofs.Fields.{size, size-more, size-last, returning, inside, Good}
use Rattle.rsp_case.proofs.Steps.{steps-read, Drawn, Follows, drawn-follows, follows_is, Along, done, more, opening_along}

skip : {s : State} → takes s nothing ≡ goes s
unfolding takes
skip = refl

lines_none : {lines : List Says} → Lines [] lines → ⊥
lines_none (blank rest) = lines_none rest

module _ {c : Case} {end s : State} {x : Says} where
  -- a line that goes on, and the last one; before either any line may say nothing
  read-line : {t : State} {said lines : List Says} → takes s x ≡ goes t → (said ≡ [] → ⊥)
      → ((rest : List Says) → Lines said rest → ReadAs c end t rest) → Lines (x ∷ said) lines → ReadAs c end s lines
  read-line e some next final = absurd (some refl)
  read-line e some next (line {lines = lines} rest) = goes_on e (next lines rest)
  read-line e some next (blank rest) = goes_on skip (read-line e some next rest)

  read-last : {lines : List Says} → takes s x ≡ whole end c → Lines (x ∷ []) lines → ReadAs c end s lines
  read-last e final = ends e
  read-last e (line rest) = absurd (lines_none rest)
  read-last e (blank rest) = goes_on skip (read-last e rest)

some-said : (x : Says) (said : List Says) → (x ∷ said) ≡ [] → ⊥
some-said x said same = omega (arith, ap length same)

some-behind : (headings : List Says) (x : Says) (said : List Says) → (headings ++ (x ∷ said)) ≡ [] → ⊥
some-behind [] x said = some-said x said
some-behind (y ∷ headings) x said = some-said y (headings ++ (x ∷ said))

some-field : (fields : List Field) (value : List ℕ) → fields_said (returning fields value) ≡ [] → ⊥
some-field [] value = some-said (gives 5 value) []
some-field (f ∷ fields) value = some-said (gives f.name f.value) (fields_said (returning fields value))

module _ (h : Heads) (number : ℕ) (ours : h.ours ≡ true) where
  module _ (k name : ℕ) (kept : List Field) (value : List ℕ) (in-case : eqb k 0 ≡ false) (good : Good h kept name value) where
    good_given : follows k name ≡ true
        → takes (inside h number k kept) (gives name value)
        ≡ taken_as kept (name is value) (taken (record { heads = h; last = k; number = number }) name)
    unfolding takes given
    good_given order =
        rw (in-case, ours, order, good.fit, le-leb (size kept + 3 + length value) 65536 good.room)

    field-taken : Follows k name
        → takes (inside h number k kept) (gives name value) ≡ goes (inside h number name (kept ++ ((name is value) ∷ [])))
    unfolding taken
    field-taken order = good_given (follows_is order).0 ∙ rw (follows_is order).1

  returned-taken : (k : ℕ) (kept : List Field) (value : List ℕ) → eqb k 0 ≡ false → Good h kept 5 value → Drawn k
      → takes (inside h number k kept) (gives 5 value) ≡ whole (between h number) (case_of number kept value)
  unfolding taken
  returned-taken k kept value in-case good drawn = good_given k 5 kept value in-case good (drawn-follows drawn)

  fields_read : {k : ℕ} {fields : List Field} {lines : List Says} (kept : List Field) (value : List ℕ) → eqb k 0 ≡ false → Along k fields
      → all_fit h (returning fields value) ≡ true → size kept + size (returning fields value) ≤ 65536
      → Lines (fields_said (returning fields value)) lines
      → ReadAs (case_of number (kept ++ fields) value) (between h number) (inside h number k kept) lines
  unfolding all_fit
  fields_read {k} {lines = lines} kept value in-case (done drawn) fit room said =
      subst (λ l. ReadAs (case_of number l value) (between h number) (inside h number k kept) lines) (sym (append-nil kept))
      (read-last (returned-taken k kept value in-case good drawn) said)
    where
      good : Good h kept 5 value
      good =
          record {
            fit = (and_parts (fits (length_for h 5) (length value)) true fit).0;
            room = omega (arith, room, size-more (5 is value) []);
          }
  fields_read {k} {lines = lines} kept value in-case (more {name = name} {value = v} {fields = fields} order rest) fit room said =
      let f = name is v in
      let this = fits (length_for h name) (length v) in
      let others = returning fields value in
      let taking = size-more f others in
      let behind = size-last kept f in
      subst (λ l. ReadAs (case_of number l value) (between h number) (inside h number k kept) lines) (append_assoc kept (f ∷ []) fields)
      (read-line
      (field-taken k name kept v in-case
      (record { fit = (and_parts this (all_fit h others) fit).0; room = omega (arith, room, taking) }) order)
      (some-field fields value)
      (λ rest_lines said.
      fields_read (kept ++ (f ∷ [])) value (follows_is order).2 rest ((and_parts this (all_fit h others) fit).1)
      (omega (arith, room, taking, behind)) said)
      said)

-- headings go before, in their turn
headings-read : {c : Case} {end : State} {h h' : Heads} {headings lines : List Says} (number : ℕ) (x : Says) (said : List Says)
    → Headings h headings h' → ((rest : List Says) → Lines (x ∷ said) rest → ReadAs c end (between h' number) rest)
    → Lines (headings ++ (x ∷ said)) lines → ReadAs c end (between h number) lines
unfolding takes headed
headings-read number x said none next = next _
headings-read number x said (of_hash {said = headings} rest) next =
    read-line refl (some-behind headings x said) (λ lines. headings-read number x said rest next)
headings-read number x said (of_fresh {said = headings} rest) next =
    read-line refl (some-behind headings x said) (λ lines. headings-read number x said rest next)
headings-read number x said (of_length {said = headings} rest) next =
    read-line refl (some-behind headings x said) (λ lines. headings-read number x said rest next)

-- the fields of a case are read as its own
pub case_back : (c : Case) → case_of c.number (fields_of c) c.returned ≡ c
case_back c =
    ap
    (λ steps.
    record {
      number = c.number;
      entropy = c.entropy;
      nonce = c.nonce;
      personalization = c.personalization;
      steps = steps;
      returned = c.returned;
    })
    (steps-read c.steps)

none-held : (fields : List Field) {most : ℕ} → size fields ≤ most → size [] + size fields ≤ most
unfolding stored
none-held fields few = omega (arith, few)

pub case_written : {h h' : Heads} {lines : List Says} {c : Case} (number : ℕ) → CaseLines h lines h' c
    → ReadAs c (between h' c.number) (between h number) lines
unfolding takes counted
case_written {h} {h'} {lines} {c} number written =
    let good = written.readable in
    let start : takes (between h' number) (counts c.number) ≡ goes (inside h' c.number 9 []) = rw written.known in
    headings-read number (counts c.number) (fields_said (all_fields c)) written.heads
    (λ rest.
    read-line start (some-field (fields_of c) c.returned)
    (λ rest said.
    subst (λ d. ReadAs d (between h' c.number) (inside h' c.number 9 []) rest) (case_back c)
    (fields_read h' c.number written.ours [] c.returned refl (opening_along c.steps good.drawn) good.fit
    (none-held (all_fields c) good.room) said)))
    written.said
