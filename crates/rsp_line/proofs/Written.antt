-- A line that gives a field or a case's number is read as that. Assumes nothing.
use Prim.Native.Nat.{ℕ, zero, suc, ◌+◌, ◌<◌, ◌≤◌, ◌^◌}
use mathlib.Core.Path.{◌≡◌, refl, sym, ap, ap₂, subst, ◌∙◌}
use mathlib.Core.Bool.{Bool, true, false, cond, ◌&&◌}
use mathlib.Core.Logic.{◌⊎◌, inl, inr}
use mathlib.Core.List.{List, [], ◌∷◌, ◌++◌, append_assoc}
use native.Mathlib.Omega.{arith}
use borrow.Author.Tests.{eq-eqb, ne_eqb, lt-ltb, eqb-true, leb-true}
use lib.Dec.{eqb, leb, lit≤}
use lib.ListN.{length, get_or, length-append}
use lib.Seq.{take-append_seam, drop-append-add, get_or-append-add}
use Rattle.standard.specs.Strings.{Bytes}
use Rattle.text.specs.Ascii.{ascii}
use Rattle.text.specs.Digits.{decimal, hex}
use Rattle.text.proofs.Digits.{length-decimal}
use Rattle.rsp_line.specs.Hex.{between}
use Rattle.same.specs.Same.{same}
use Rattle.rsp_line.specs.Names.{name_of}
use Rattle.rsp_line.specs.Lines.{Says, counts, gives, on_number, on_named, name_end}
use Rattle.rsp_line.specs.Lines.{field_says, field, says}
use Rattle.rsp_line.specs.Written.{name_text, field_line, count_line, Line, Gives, Counts}
use Rattle.std.proofs.lemmas.Bool.{and_parts}
use Rattle.rsp_line.proofs.Digits.{hex-written}
use Rattle.rsp_line.proofs.Numbers.{number-written}
use Rattle.rsp_line.proofs.Says.{says-field}

-- a name's text is read as its number, has no sign, and begins with a letter
abbrev is_named : (k : ℕ) → Bool
is_named k = eqb (name_of (name_text k)) k

abbrev signless : (k : ℕ) → Bool
signless k = eqb (name_end (name_text k)) (length (name_text k))

abbrev lettered : (k : ℕ) → Bool
lettered k = between 65 (get_or (name_text k) 0 0) 90

tested : (k : ℕ) → Bool
tested k = is_named k && (signless k && lettered k)

names_tested : (k : ℕ) → 1 ≤ k → k ≤ 9 → tested k ≡ true
unfolding tested name_of name_text name_end same ascii
names_tested zero low high = absurd (omega arith)
names_tested (suc zero) low high = refl
names_tested (suc (suc zero)) low high = refl
names_tested (suc (suc (suc zero))) low high = refl
names_tested (suc (suc (suc (suc zero)))) low high = refl
names_tested (suc (suc (suc (suc (suc zero))))) low high = refl
names_tested (suc (suc (suc (suc (suc (suc zero)))))) low high = refl
names_tested (suc (suc (suc (suc (suc (suc (suc zero))))))) low high = refl
names_tested (suc (suc (suc (suc (suc (suc (suc (suc zero)))))))) low high = refl
names_tested (suc (suc (suc (suc (suc (suc (suc (suc (suc zero))))))))) low high = refl
names_tested (suc (suc (suc (suc (suc (suc (suc (suc (suc (suc k)))))))))) low high = absurd (omega arith)

module _ (k : ℕ) (low : 1 ≤ k) (high : k ≤ 9) where
  name-known : name_of (name_text k) ≡ k
  unfolding tested
  name-known = eqb-true _ _ ((and_parts (is_named k) (signless k && lettered k) (names_tested k low high)).0)

  spelt : (signless k && lettered k) ≡ true
  unfolding tested
  spelt = (and_parts (is_named k) (signless k && lettered k) (names_tested k low high)).1

  no_sign_in : name_end (name_text k) ≡ length (name_text k)
  no_sign_in = eqb-true _ _ ((and_parts (signless k) (lettered k) spelt).0)

  letter : (65 ≤ get_or (name_text k) 0 0) × (get_or (name_text k) 0 0 ≤ 90)
  letter =
      let c = get_or (name_text k) 0 0 in
      let is = (and_parts (signless k) (lettered k) spelt).1 in
      (leb-true _ _ ((and_parts (leb 65 c) (leb c 90) is).0), leb-true _ _ ((and_parts (leb 65 c) (leb c 90) is).1))

-- the first sign stands behind a name that has none
sign_behind : (w rest : List ℕ) → name_end w ≡ length w → name_end (w ++ (61 ∷ rest)) ≡ length w
unfolding name_end
sign_behind [] rest is = refl
sign_behind (c ∷ w) rest is = go (eqb c 61) is (sign_behind w rest)
  where
    go : (b : Bool) → cond b 0 (suc (name_end w)) ≡ suc (length w) → (name_end w ≡ length w → name_end (w ++ (61 ∷ rest)) ≡ length w)
        → cond b 0 (suc (name_end (w ++ (61 ∷ rest)))) ≡ suc (length w)
    go true is next = absurd (omega (arith, is))
    go false is next = ap suc (next (omega (arith, is)))

module _ (f : (name value : List ℕ) → Says) (w : List ℕ) (plain : name_end w ≡ length w) where
  on_spaced : (value : List ℕ) → on_named f (w ++ (61 ∷ 32 ∷ value)) ≡ f w value
  on_spaced value =
      let s = w ++ (61 ∷ 32 ∷ value) in
      let end : name_end s ≡ length w = sign_behind w (32 ∷ value) plain in
      let long : length s ≡ length w + length (61 ∷ 32 ∷ value) = length-append w (61 ∷ 32 ∷ value) in
      let more : length w + 1 ≡ length s → ⊥ = λ e. omega (arith, e, long) in
      let space = get_or-append-add w (61 ∷ 32 ∷ value) 1 0 in
      rw (end, lt-ltb (length w) (length s) (omega (arith, long)), ne_eqb (length w + 1) (length s) more, eq-eqb _ 32 space)
      (ap₂ f (take-append_seam w (61 ∷ 32 ∷ value)) (drop-append-add w (61 ∷ 32 ∷ value) 2))

  on_bare : on_named f (w ++ (61 ∷ [])) ≡ f w []
  on_bare =
      let s = w ++ (61 ∷ []) in
      let end : name_end s ≡ length w = sign_behind w [] plain in
      let long : length s ≡ length w + 1 = length-append w (61 ∷ []) in
      rw (end, lt-ltb (length w) (length s) (omega (arith, long)), eq-eqb (length w + 1) (length s) (sym long))
      (ap₂ f (take-append_seam w (61 ∷ [])) (drop-append-add w (61 ∷ []) 2))

-- the first character is an upper-case letter
pub record Starts (s : List ℕ) : Type 0 where
  pub some : 0 < length s
  pub least : 65 ≤ get_or s 0 0
  pub most : get_or s 0 0 ≤ 90

starts_with : (w rest : List ℕ) → 65 ≤ get_or w 0 0 → get_or w 0 0 ≤ 90 → Starts (w ++ rest)
starts_with [] rest low high = absurd (omega arith)
starts_with (c ∷ w) rest low high = record { some = omega arith; least = low; most = high }

starts_as : {s : List ℕ} (w rest : List ℕ) → s ≡ w ++ rest → (65 ≤ get_or w 0 0) × (get_or w 0 0 ≤ 90) → Starts s
starts_as w rest is h = subst Starts (sym is) (starts_with w rest h.0 h.1)

-- a line of a name and a value
module _ (k : ℕ) (low : 1 ≤ k) (high : k ≤ 9) {value s : List ℕ} (line : Line k value s) where
  line-named : (f : (name value : List ℕ) → Says) → on_named f s ≡ f (name_text k) value
  unfolding ascii
  line-named f = go line.is
    where
      go : (s ≡ name_text k ++ ascii "= " ++ value) ⊎ ((value ≡ []) × (s ≡ name_text k ++ ascii "=")) → on_named f s ≡ f (name_text k) value
      go (inl e) =
          ap (on_named f) (e ∙ append_assoc (name_text k) (ascii "= ") value) ∙ on_spaced f (name_text k) (no_sign_in k low high) value
      go (inr e) = ap (on_named f) e.1 ∙ on_bare f (name_text k) (no_sign_in k low high) ∙ ap (f (name_text k)) (sym e.0)

  starts : Starts s
  starts = go line.is
    where
      go : (s ≡ name_text k ++ ascii "= " ++ value) ⊎ ((value ≡ []) × (s ≡ name_text k ++ ascii "=")) → Starts s
      go (inl e) =
          starts_as (name_text k) (ascii "= " ++ value) (e ∙ append_assoc (name_text k) (ascii "= ") value) (letter k low high)
      go (inr e) = starts_as (name_text k) (ascii "=") e.1 (letter k low high)

  line-says : says s ≡ field_says k value
  unfolding field
  line-says =
      let first = starts in
      says-field s line.fits (λ e. omega (arith, e)) (λ e. omega (arith, e)) (λ e. omega (arith, e)) ∙
      line-named (λ name. field_says (name_of name)) ∙
      ap (λ n. field_says n value) (name-known k low high)

pub field-read : {name : ℕ} {v s : List ℕ} → Gives name v s → says s ≡ gives name v
unfolding field_says
field-read {name} h =
    line-says name h.field.0 (omega (arith, h.field.1)) h.line ∙
    rw (ne_eqb name 0 (λ e. omega (arith, e, h.field.0)), ne_eqb name 9 (λ e. omega (arith, e, h.field.1)), h.whole, h.are)

pub count-read : {n : ℕ} {s : List ℕ} → Counts n s → says s ≡ counts n
unfolding field_says
count-read h = line-says 9 (lit≤ tt) (lit≤ tt) h.line ∙ ap (λ o. on_number o counts) h.are

pub field-written : (name : ℕ) (v : List ℕ) → 1 ≤ name → name ≤ 8 → Bytes v → length (field_line name v) ≤ 4096
    → says (field_line name v) ≡ gives name v
field-written name v low high bytes short =
    field-read
    (record {
      field = (low, high);
      digits = hex v;
      whole = (hex-written v bytes).0;
      are = (hex-written v bytes).1;
      line = record { fits = short; is = inl refl };
    })

pub count-written : (n : ℕ) → n < 2 ^ 64 → says (count_line n) ≡ counts n
unfolding name_text ascii
count-written n fits =
    count-read
    (record {
      digits = decimal n;
      are = number-written n fits;
      line = record { fits = omega (arith, length-append (ascii "COUNT = ") (decimal n), length-decimal n); is = inl refl };
    })
