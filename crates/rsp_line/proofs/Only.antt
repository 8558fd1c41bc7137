-- A line that is read as a field or as a case's number is so written. Assumes nothing.
use Prim.Native.Nat.{ℕ, suc, ◌+◌, ◌-◌, ◌<◌, ◌≤◌}
use mathlib.Core.Path.{◌≡◌, refl, sym, ap, ap₂, subst, ◌∙◌}
use mathlib.Core.Bool.{Bool, true, false, cond, ◌&&◌, ◌||◌}
use mathlib.Core.Logic.{inl, inr}
use mathlib.Core.List.{List, [], ◌∷◌, ◌++◌, append_assoc}
use native.Mathlib.Decide.{dec_lt}
use native.Mathlib.Omega.{arith}
use borrow.Author.Tests.{eqb-true, eqb-false, ltb-true, ltb-false}
use lib.Dec.{eqb, leb, ltb, lit≤}
use lib.ListN.{length, take, drop, get_or, take-append-drop, drop_of_length-le, get_or-eq_default}
use Rattle.std.specs.Prelude.{Option, Some, None}
use Rattle.text.specs.Ascii.{ascii}
use Rattle.rsp_line.specs.Hex.{is_hex, bytes_of}
use Rattle.rsp_line.specs.Decimal.{number_of}
use Rattle.same.specs.Same.{same}
use Rattle.rsp_line.specs.Names.{name_of, length_of}
use Rattle.rsp_line.specs.Lines.{Says, nothing, hash, resists, bits, counts, gives, unread, on_number, on_named, name_end}
use Rattle.rsp_line.specs.Lines.{field_says, truth_of, length_says, heading_says, heading_in, heading, field, says}
use Rattle.rsp_line.specs.Written.{name_text, Line, Gives, Counts}
use Rattle.std.proofs.lemmas.Bool.{and_parts}
use Rattle.rsp_line.proofs.Lists.{split}
use Rattle.same.proofs.Sameness.{same-is}

-- the number of a name is that of its text
abbrev Spelt : (s : List ℕ) (k : ℕ) → Type 0
Spelt s k = (k ≡ 0 → ⊥) → (k ≤ 9) × (s ≡ name_text k)

spelt_as : (word s : List ℕ) (k : ℕ) {m : ℕ} → k ≤ 9 → word ≡ name_text k → Spelt s m → Spelt s (cond (same word s) k m)
spelt_as word s k {m} few is rest = go (same word s) refl
  where
    go : (b : Bool) → same word s ≡ b → Spelt s (cond b k m)
    go true e known = (few, sym (same-is word s e) ∙ is)
    go false e known = rest known

name_spelt : (s : List ℕ) → Spelt s (name_of s)
unfolding name_of name_text ascii
name_spelt s =
    spelt_as (ascii "EntropyInput ") s 1 (lit≤ tt) refl
    (spelt_as (ascii "Nonce ") s 2 (lit≤ tt) refl
    (spelt_as (ascii "PersonalizationString ") s 3 (lit≤ tt) refl
    (spelt_as (ascii "AdditionalInput ") s 4 (lit≤ tt) refl
    (spelt_as (ascii "ReturnedBits ") s 5 (lit≤ tt) refl
    (spelt_as (ascii "EntropyInputReseed ") s 6 (lit≤ tt) refl
    (spelt_as (ascii "AdditionalInputReseed ") s 7 (lit≤ tt) refl
    (spelt_as (ascii "EntropyInputPR ") s 8 (lit≤ tt) refl
    (spelt_as (ascii "COUNT ") s 9 (lit≤ tt) refl
    (λ known. absurd (known refl))))))))))

sign_there : (s : List ℕ) → name_end s < length s → get_or s (name_end s) 0 ≡ 61
unfolding name_end
sign_there [] h = absurd (omega arith)
sign_there (c ∷ s) h = go (eqb c 61) refl h (sign_there s)
  where
    go : (b : Bool) → eqb c 61 ≡ b → cond b 0 (suc (name_end s)) < suc (length s) → (name_end s < length s → get_or s (name_end s) 0 ≡ 61)
        → get_or (c ∷ s) (cond b 0 (suc (name_end s))) 0 ≡ 61
    go true e h next = eqb-true c 61 e
    go false e h next = next (omega (arith, h))

-- a line that is cut at its first sign
module _ (s : List ℕ) (k : ℕ) (fits : length s ≤ 4096) (name : take (name_end s) s ≡ name_text k) where
  cut : name_end s < length s → s ≡ name_text k ++ (61 ∷ drop (name_end s + 1) s)
  cut sign =
      sym (take-append-drop (name_end s) s) ∙
      ap₂ ◌++◌ name (split s (name_end s) sign ∙ ap (λ c. c ∷ drop (name_end s + 1) s) (sign_there s sign))

  line_bare : name_end s < length s → name_end s + 1 ≡ length s → Line k (drop (name_end s + 2) s) s
  unfolding ascii
  line_bare sign last =
      let past : length s ≤ name_end s + 1 = omega arith in
      let further : length s ≤ name_end s + 2 = omega arith in
      record {
        fits = fits;
        is = inr (drop_of_length-le s further, cut sign ∙ ap (λ l. name_text k ++ (61 ∷ l)) (drop_of_length-le s past));
      }

  -- beyond the end there is no space
  more-behind : name_end s < length s → get_or s (name_end s + 1) 0 ≡ 32 → name_end s + 1 < length s
  more-behind sign space = go (dec_lt (name_end s + 1) (length s))
    where
      go : Dec (name_end s + 1 < length s) → name_end s + 1 < length s
      go (yes h) = h
      go (no h) =
          let past : length s ≤ name_end s + 1 = omega (arith, h) in
          absurd (omega (arith, space, get_or-eq_default s 0 past))

  line_spaced : name_end s < length s → get_or s (name_end s + 1) 0 ≡ 32 → Line k (drop (name_end s + 2) s) s
  unfolding ascii
  line_spaced sign space =
      let more : name_end s + 1 < length s = more-behind sign space in
      let next : name_end s + 1 + 1 ≡ name_end s + 2 = omega arith in
      let value = drop (name_end s + 2) s in
      let behind = split s (name_end s + 1) more ∙ ap₂ (λ c n. c ∷ drop n s) space next in
      record {
        fits = fits;
        is = inl (cut sign ∙ ap (λ l. name_text k ++ (61 ∷ l)) behind ∙ sym (append_assoc (name_text k) (ascii "= ") value));
      }

  line-is : (ltb (name_end s) (length s) && (eqb (name_end s + 1) (length s) || eqb (get_or s (name_end s + 1) 0) 32)) ≡ true
      → Line k (drop (name_end s + 2) s) s
  line-is h = go (eqb (name_end s + 1) (length s)) refl ((and_parts (ltb (name_end s) (length s)) _ h).1)
    where
      sign : name_end s < length s
      sign = ltb-true _ _ ((and_parts (ltb (name_end s) (length s)) _ h).0)

      go : (last : Bool) → eqb (name_end s + 1) (length s) ≡ last → (last || eqb (get_or s (name_end s + 1) 0) 32) ≡ true
          → Line k (drop (name_end s + 2) s) s
      go true e either_way = line_bare sign (eqb-true _ _ e)
      go false e space = line_spaced sign (eqb-true _ _ space)

-- a line that is read as a field or a number is one
data Only (s : List ℕ) : Says → Type 0 where
  is-nothing : Only s nothing
  is-hash : (ours : Bool) → Only s (hash ours)
  is_truth : (b : Bool) → Only s (resists b)
  is-length : (name n : ℕ) → Only s (bits name n)
  is-count : {n : ℕ} → Counts n s → Only s (counts n)
  is_field : {name : ℕ} {v : List ℕ} → Gives name v s → Only s (gives name v)
  is-unread : Only s unread

module _ {s : List ℕ} where
  either : (b : Bool) {x y : Says} → (b ≡ true → Only s x) → (b ≡ false → Only s y) → Only s (cond b x y)
  either true first second = first refl
  either false first second = second refl

  either_way : (b : Bool) {x y : Says} → Only s x → Only s y → Only s (cond b x y)
  either_way b first second = either b (λ is. first) (λ other. second)

  -- a heading
  bits_only : (name : ℕ) (o : Option ℕ) → Only s (on_number o (bits name))
  bits_only name None = is-unread
  bits_only name (Some n) = is-length name n

  truth_only : (value : List ℕ) → Only s (truth_of value)
  unfolding truth_of
  truth_only value =
      either_way (same (ascii "True") value) (is_truth true) (either_way (same (ascii "False") value) (is_truth false) is-unread)

  length_only : (name : ℕ) (value : List ℕ) → Only s (length_says name value)
  unfolding length_says
  length_only name value = either_way (eqb name 0) is-unread (bits_only name (number_of value))

  named_only : (t : List ℕ) → Only s (on_named heading_says t)
  named_only t =
      let n = name_end t in
      either_way (ltb n (length t) && (eqb (n + 1) (length t) || eqb (get_or t (n + 1) 0) 32))
      (either_way (same (ascii "PredictionResistance ") (take n t)) (truth_only (drop (n + 2) t))
      (length_only (length_of (take n t)) (drop (n + 2) t)))
      is-unread

  in_only : (t : List ℕ) → Only s (heading_in t)
  unfolding heading_in
  in_only t = either_way (ltb (name_end t) (length t)) (named_only t) (is-hash (same (ascii "SHA-256") t))

  heading_only : (t : List ℕ) → Only s (heading t)
  unfolding heading
  heading_only t =
      either_way (leb 2 (length t) && eqb (get_or t (length t - 1) 0) 93) (in_only (take (length t - 2) (drop 1 t))) is-unread

at_least : {k : ℕ} → (k ≡ 0 → ⊥) → 1 ≤ k
at_least h = omega (arith, h)

at_most : {k : ℕ} → k ≤ 9 → (k ≡ 9 → ⊥) → k ≤ 8
at_most few h = omega (arith, h)

-- a name and its value
module _ (s w value : List ℕ) (line : (k : ℕ) → w ≡ name_text k → Line k value s) where
  counted : w ≡ name_text 9 → (o : Option ℕ) → number_of value ≡ o → Only s (on_number o counts)
  counted name None is = is-unread
  counted name (Some n) is = is-count (record { digits = value; are = is; line = line 9 name })

  given : (k : ℕ) → (k ≡ 0 → ⊥) → (k ≡ 9 → ⊥) → (k ≤ 9) × (w ≡ name_text k) → is_hex value ≡ true → Only s (gives k (bytes_of value))
  given k known other name whole =
      is_field
      (record {
        field = (at_least known, at_most name.0 other);
        digits = value;
        whole = whole;
        are = refl;
        line = line k name.1;
      })

  value_only : Only s (field_says (name_of w) value)
  unfolding field_says
  value_only =
      let k = name_of w in
      either (eqb k 0) (λ unknown. is-unread)
      (λ some.
      let known = eqb-false k 0 some in
      let name = name_spelt w known in
      either (eqb k 9) (λ nine. counted (name.1 ∙ ap name_text (eqb-true k 9 nine)) (number_of value) refl)
      (λ other. either (is_hex value) (given k known (eqb-false k 9 other) name) (λ torn. is-unread)))

field-says_only : (s : List ℕ) → length s ≤ 4096 → Only s (field s)
unfolding field
field-says_only s fits =
    let n = name_end s in
    either (ltb n (length s) && (eqb (n + 1) (length s) || eqb (get_or s (n + 1) 0) 32))
    (λ h. value_only s (take n s) (drop (n + 2) s) (λ k name. line-is s k fits name h))
    (λ torn. is-unread)

says_only : (s : List ℕ) → Only s (says s)
unfolding says
says_only s =
    either (ltb 4096 (length s)) (λ long. is-unread)
    (λ short.
    either_way (eqb (length s) 0 || eqb (get_or s 0 0) 35) is-nothing
    (either_way (eqb (get_or s 0 0) 91) (heading_only s) (field-says_only s (ltb-false 4096 (length s) short))))

pub field_only : (s : List ℕ) {name : ℕ} {v : List ℕ} → says s ≡ gives name v → Gives name v s
field_only s {name} {v} is = go (subst (Only s) is (says_only s))
  where
    go : Only s (gives name v) → Gives name v s
    go (is_field h) = h

pub count_only : (s : List ℕ) {n : ℕ} → says s ≡ counts n → Counts n s
count_only s {n} is = go (subst (Only s) is (says_only s))
  where
    go : Only s (counts n) → Counts n s
    go (is-count h) = h
