-- What is read as a case is its lines: whatever else a line says, it does not go on to the case. Assumes nothing.
use Prim.Native.Nat.{ℕ, ◌+◌, ◌≤◌}
use mathlib.Core.Path.{◌≡◌, refl, sym, ap, ap₂, subst, ◌∙◌}
use mathlib.Core.Bool.{Bool, true, false, ◌&&◌, not, cond, false≢true}
use mathlib.Core.List.{List, [], ◌∷◌, ◌++◌, append-nil, append_assoc}
use native.Mathlib.Omega.{arith}
use borrow.Author.Tests.{leb-true}
use lib.Dec.{eqb, leb}
use lib.ListN.{length}
use Rattle.rsp_line.specs.Lines as lines
use Rattle.rsp_line.specs.Lines.{Says, nothing, hash, resists, bits, counts, gives}
use Rattle.rsp_case.specs.Cases.{Field, ◌is◌, Case, case_of}
use Rattle.rsp_case.specs.Store.{stored}
use Rattle.rsp_case.specs.Heads.{heads_under, with_fresh, with_length, length_for, fits}
use Rattle.rsp_case.specs.Points.{Next, follows, headed, counted, passed, taken, given}
use Rattle.rsp_case.specs.Reading.{State, taken_as, takes, Taken, goes, whole, passed_over, unread}
use Rattle.rsp_case.specs.Written.{fields_said, Headings, none, of_hash, of_fresh, of_length, all_fit}
use Rattle.rsp_case.specs.Written.{Lines, final, line, blank, CaseLines, ReadAs, ends, goes_on, between}
use Rattle.rsp_case.specs.declared.heads.Heads.{Heads}
use Rattle.std.proofs.lemmas.Bool.{and_parts}
use Rattle.rsp_case.proofs.Fields.{size, size-more, size-last, returning, inside, Good}
use Rattle.rsp_case.proofs.Steps.{Drawn, Follows, May, field, returned, follows_is, may_follow}
use Rattle.rsp_case.proofs.Steps.{Along, done, more, Opening, along_opening}
use Rattle.rsp_case.proofs.Written.{case_back}

either : (P : Next → Type 0) (b : Bool) {x y : Next} → (b ≡ true → P x) → (b ≡ false → P y) → P (cond b x y)
either P true first second = first refl
either P false first second = second refl

-- ---- a line inside a case

data Inside (s : State) : Says → Taken → Type 0 where
  skips : Inside s nothing (goes s)
  passes : {name : ℕ} {value : List ℕ} → s.point.heads.ours ≡ false → Inside s (gives name value) (goes s)
  keeps : {name : ℕ} {value : List ℕ} → s.point.heads.ours ≡ true → Good s.point.heads s.fields name value
      → Follows s.point.last name
      → Inside s (gives name value)
      (goes (inside s.point.heads s.point.number name (s.fields ++ ((name is value) ∷ []))))
  ends_case : {value : List ℕ} → s.point.heads.ours ≡ true → Good s.point.heads s.fields 5 value → Drawn s.point.last
      → Inside s (gives 5 value)
      (whole (between s.point.heads s.point.number) (case_of s.point.number s.fields value))
  passes_case : {x : Says} {t : State} {number : ℕ} → Inside s x (passed_over t number)
  stops : {x : Says} → Inside s x unread

module _ (s : State) where
  -- under our hash
  taken-inside : (name : ℕ) (value : List ℕ) → s.point.heads.ours ≡ true → Good s.point.heads s.fields name value
      → May s.point.last name → Inside s (gives name value) (taken_as s.fields (name is value) (taken s.point name))
  unfolding taken
  taken-inside name value ours good (field order) = rw (follows_is order).1 (keeps ours good order)
  taken-inside name value ours good (returned drawn) = ends_case ours good drawn

  module _ (in-case : eqb s.point.last 0 ≡ false) where
    given_inside : (name : ℕ) (value : List ℕ) → Inside s (gives name value) (takes s (gives name value))
    unfolding takes given passed
    given_inside name value =
        let x = gives name value in
        let P : Next → Type 0 = λ n. Inside s x (taken_as s.fields (name is value) n) in
        let order = follows s.point.last name in
        let fit = fits (length_for s.point.heads name) (length value) in
        let room = leb (size s.fields + 3 + length value) 65536 in
        either P (eqb s.point.last 0) (λ between-cases. stops)
        (λ inside-case.
        either P (not s.point.heads.ours)
        (λ other. either P (eqb name 5) (λ last. passes_case) (λ no_end. passes (not-true s.point.heads.ours other)))
        (λ own.
        either P ((order && fit) && room)
        (λ good.
        let both = (and_parts (order && fit) room good).0 in
        taken-inside name value (not-false s.point.heads.ours own)
        (record { fit = (and_parts order fit both).1; room = leb-true _ 65536 ((and_parts (order && fit) room good).1) })
        (may_follow s.point.last name ((and_parts order fit both).0)))
        (λ bad. stops)))
      where
        not-true : (b : Bool) → not b ≡ true → b ≡ false
        not-true true h = absurd (false≢true h)
        not-true false h = refl

        not-false : (b : Bool) → not b ≡ false → b ≡ true
        not-false true h = refl
        not-false false h = absurd (false≢true (sym h))

    line-inside : (x : Says) → Inside s x (takes s x)
    unfolding takes headed counted
    line-inside nothing = skips
    line-inside (hash ours) = rw in-case stops
    line-inside (resists b) = rw in-case stops
    line-inside (bits name n) = rw in-case stops
    line-inside (counts n) = rw in-case stops
    line-inside (gives name value) = given_inside name value
    line-inside lines.unread = stops

-- ---- the lines behind COUNT

-- the fields that they give, behind those that are kept
record Rest (c : Case) (end s : State) (lines : List Says) : Type 0 where
  fields : List Field
  value : List ℕ
  along : Along s.point.last fields
  ours : s.point.heads.ours ≡ true
  fit : all_fit s.point.heads (returning fields value) ≡ true
  room : size s.fields + size (returning fields value) ≤ 65536
  said : Lines (fields_said (returning fields value)) lines
  case_is : c ≡ case_of s.point.number (s.fields ++ fields) value
  end_is : end ≡ between s.point.heads s.point.number

last_rest : {c : Case} {end s : State} {x : Says} → Inside s x (whole end c) → Rest c end s (x ∷ [])
unfolding all_fit stored
last_rest {s = s} (ends_case {value = value} ours good drawn) =
    record {
      fields = [];
      value = value;
      along = done drawn;
      ours = ours;
      fit = ap (λ b. b && true) good.fit;
      room = omega (arith, good.room, size-more (5 is value) []);
      said = final;
      case_is = ap (λ l. case_of s.point.number l value) (sym (append-nil s.fields));
      end_is = refl;
    }

more-rest : {c : Case} {end s t : State} {x : Says} {lines : List Says} → eqb s.point.last 0 ≡ false → Inside s x (goes t)
    → (eqb t.point.last 0 ≡ false → Rest c end t lines) → Rest c end s (x ∷ lines)
unfolding all_fit
more-rest in-case skips next =
    let rest = next in-case in
    record {
      fields = rest.fields;
      value = rest.value;
      along = rest.along;
      ours = rest.ours;
      fit = rest.fit;
      room = rest.room;
      said = blank rest.said;
      case_is = rest.case_is;
      end_is = rest.end_is;
    }
more-rest in-case (passes other) next = absurd (false≢true (sym other ∙ (next in-case).ours))
more-rest {s = s} in-case (keeps {name = name} {value = value} ours good order) next =
    let f = name is value in
    let rest = next (follows_is order).2 in
    let taking = size-more f (returning rest.fields rest.value) in
    let behind = size-last s.fields f in
    record {
      fields = f ∷ rest.fields;
      value = rest.value;
      along = more order rest.along;
      ours = ours;
      fit = ap₂ ◌&&◌ good.fit rest.fit;
      room = omega (arith, rest.room, taking, behind);
      said = line rest.said;
      case_is = rest.case_is ∙
          ap (λ l. case_of s.point.number l rest.value) (append_assoc s.fields (f ∷ []) rest.fields);
      end_is = rest.end_is;
    }

inside_only : {c : Case} {end s : State} {lines : List Says} → eqb s.point.last 0 ≡ false → ReadAs c end s lines → Rest c end s lines
inside_only {s = s} in-case (ends {x = x} e) = last_rest (subst (Inside s x) e (line-inside s in-case x))
inside_only {s = s} in-case (goes_on {x = x} e rest) =
    more-rest in-case (subst (Inside s x) e (line-inside s in-case x)) (λ in-case. inside_only in-case rest)

-- ---- a line between cases

data Between (h : Heads) (number : ℕ) : Says → Taken → Type 0 where
  skips : Between h number nothing (goes (between h number))
  names-hash : {ours : Bool} → Between h number (hash ours) (goes (between (heads_under ours) number))
  says-fresh : {b : Bool} → Between h number (resists b) (goes (between (with_fresh h b) number))
  says-length : {name n : ℕ} → Between h number (bits name n) (goes (between (with_length h name n) number))
  begins : {n : ℕ} → h.known ≡ true → Between h number (counts n) (goes (inside h n 9 []))
  stops : {x : Says} → Between h number x unread

line-between : (h : Heads) (number : ℕ) (x : Says) → Between h number x (takes (between h number) x)
unfolding takes headed counted given
line-between h number nothing = skips
line-between h number (hash ours) = names-hash
line-between h number (resists b) = says-fresh
line-between h number (bits name n) = says-length
line-between h number (counts n) =
    either (λ next. Between h number (counts n) (taken_as [] (0 is []) next)) h.known begins (λ unknown. stops)
line-between h number (gives name value) = stops
line-between h number lines.unread = stops

-- the lines of a case, which leave its headings and its number
abbrev Found : Heads → List Says → Case → State → Type 0
Found h lines c end = CaseLines h lines end.point.heads c × (end ≡ between end.point.heads c.number)

found-behind : {c : Case} {end : State} {h : Heads} {n : ℕ} {lines : List Says} → h.known ≡ true → Rest c end (inside h n 9 []) lines
    → Found h (counts n ∷ lines) c end
found-behind {c} {end} {h} {n} {lines} known rest =
    subst (λ d. Found h (counts n ∷ lines) d end) (sym c-is)
    (subst (Found h (counts n ∷ lines) opened) (sym rest.end_is) (
      record {
        headings = [];
        heads = none;
        known = known;
        ours = rest.ours;
        readable = record {
          drawn = opening.ends;
          fit = subst (λ l. all_fit h (returning l rest.value) ≡ true) opening.are rest.fit;
          room = subst (λ l. size (returning l rest.value) ≤ 65536) opening.are (some-room rest.room);
        };
        said = line (subst (λ l. Lines (fields_said (returning l rest.value)) lines) opening.are rest.said);
      },
      refl,
    ))
  where
    opening : Opening rest.fields
    opening = along_opening rest.along

    opened : Case
    opened =
        record {
          number = n;
          entropy = opening.entropy;
          nonce = opening.nonce;
          personalization = opening.personalization;
          steps = opening.steps;
          returned = rest.value;
        }

    c-is : c ≡ opened
    c-is = rest.case_is ∙ ap (λ l. case_of n l rest.value) opening.are ∙ case_back opened

    some-room : {k : ℕ} → size [] + k ≤ 65536 → k ≤ 65536
    some-room h = omega arith

module _ {c : Case} {end : State} {h : Heads} {lines : List Says} where
  blank-first : Found h lines c end → Found h (nothing ∷ lines) c end
  blank-first found =
      let rest = found.0 in (
        record {
          headings = rest.headings;
          heads = rest.heads;
          known = rest.known;
          ours = rest.ours;
          readable = rest.readable;
          said = blank rest.said;
        },
        found.1,
      )

  -- a heading, by which they had said what they say now
  head_first : {h₀ : Heads} {x : Says}
      → ((headings : List Says) → Headings h headings end.point.heads → Headings h₀ (x ∷ headings) end.point.heads)
      → Found h lines c end → Found h₀ (x ∷ lines) c end
  head_first {x = x} first found =
      let rest = found.0 in (
        record {
          headings = x ∷ rest.headings;
          heads = first rest.headings rest.heads;
          known = rest.known;
          ours = rest.ours;
          readable = rest.readable;
          said = line rest.said;
        },
        found.1,
      )

between_only : {c : Case} {end s : State} {lines : List Says} (h : Heads) (number : ℕ) → s ≡ between h number → ReadAs c end s lines
    → Found h lines c end
between_only {c} {end} h number is-between (ends {x = x} e) =
    go (subst (Between h number x) (ap (λ s. takes s x) (sym is-between) ∙ e) (line-between h number x))
  where
    go : {x : Says} → Between h number x (whole end c) → Found h (x ∷ []) c end
    go {x} b = elim b [ ]
between_only {c} {end} h number is-between (goes_on {x = x} {lines = lines} e rest) =
    go (subst (Between h number x) (ap (λ s. takes s x) (sym is-between) ∙ e) (line-between h number x)) rest
    (λ h number is-between. between_only h number is-between rest)
  where
    go : {x : Says} {t : State} → Between h number x (goes t) → ReadAs c end t lines
        → ((h : Heads) (number : ℕ) → t ≡ between h number → Found h lines c end) → Found h (x ∷ lines) c end
    go skips rest next = blank-first (next h number refl)
    go names-hash rest next = head_first (λ headings said. of_hash said) (next _ number refl)
    go says-fresh rest next = head_first (λ headings said. of_fresh said) (next _ number refl)
    go says-length rest next = head_first (λ headings said. of_length said) (next _ number refl)
    go (begins known) rest next = found-behind known (inside_only refl rest)

pub case_only : {c : Case} {end : State} {lines : List Says} (h : Heads) (number : ℕ) → ReadAs c end (between h number) lines
    → CaseLines h lines end.point.heads c × (end ≡ between end.point.heads c.number)
case_only h number = between_only h number refl
