-- The text of a case is read as that case: each of its lines says what it was written for. Assumes nothing.
use Prim.Native.Nat.{ℕ, ◌≤◌}
use mathlib.Core.Path.{◌≡◌, refl, sym, ap₂, subst}
use mathlib.Core.Bool.{true}
use mathlib.Core.List.{List, [], ◌∷◌, map}
use lib.Dec.{lit≤}
use Rattle.rsp_line.specs.Lines.{Says, says}
use Rattle.rsp_line.specs.Written.{field_line}
use Rattle.rsp_line.proofs.Written.{field-written, count-written}
use Rattle.rsp_case.specs.Cases.{Field, Case}
use Rattle.rsp_case.specs.Written.{fields_said, case_said, none, Lines, final, line, Readable, ReadAs, between}
use Rattle.rsp_case.specs.Text.{case_text, OnLines, no_field, one_more, Writable}
use Rattle.rsp_case.specs.declared.heads.Heads.{Heads}
use Rattle.rsp_case.proofs.Fields.{returning}
use Rattle.rsp_case.proofs.Steps.{Follows, entropy, nonce, personalization, draw, reseed, reseeded, freshened}
use Rattle.rsp_case.proofs.Steps.{Along, done, more, opening_along}
use Rattle.rsp_case.proofs.Written.{case_written}

named : {last name : ℕ} → Follows last name → (1 ≤ name) × (name ≤ 8)
named entropy = (lit≤ tt, lit≤ tt)
named nonce = (lit≤ tt, lit≤ tt)
named personalization = (lit≤ tt, lit≤ tt)
named (draw behind) = (lit≤ tt, lit≤ tt)
named (reseed behind) = (lit≤ tt, lit≤ tt)
named reseeded = (lit≤ tt, lit≤ tt)
named freshened = (lit≤ tt, lit≤ tt)

fields_say : {last : ℕ} {fields : List Field} (value : List ℕ) → Along last fields → OnLines (returning fields value)
    → map says (map (λ f. field_line f.name f.value) (returning fields value)) ≡ fields_said (returning fields value)
fields_say value (done drawn) (one_more bytes short no_field) =
    ap₂ (λ x y. x ∷ y) (field-written 5 value (lit≤ tt) (lit≤ tt) bytes short) refl
fields_say value (more {name = name} {value = v} order rest) (one_more bytes short strings) =
    ap₂ (λ x y. x ∷ y) (field-written name v (named order).0 (named order).1 bytes short) (fields_say value rest strings)

case_says : {h : Heads} (c : Case) → Readable h c → Writable c → map says (case_text c) ≡ case_said c
case_says c good able =
    ap₂ (λ x y. x ∷ y) (count-written c.number able.number)
    (fields_say c.returned (opening_along c.steps good.drawn) able.strings)

-- lines that say these and no more
all_lines : (x : Says) (said : List Says) → Lines (x ∷ said) (x ∷ said)
all_lines x [] = final
all_lines x (y ∷ said) = line (all_lines y said)

pub case_written_text : {h : Heads} (c : Case) (number : ℕ) → h.known ≡ true → h.ours ≡ true → Readable h c → Writable c
    → ReadAs c (between h c.number) (between h number) (map says (case_text c))
case_written_text c number known ours good able =
    case_written number
    (record {
      headings = [];
      heads = none;
      known = known;
      ours = ours;
      readable = good;
      said = subst (Lines (case_said c)) (sym (case_says c good able)) (all_lines _ _);
    })
