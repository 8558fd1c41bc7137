-- What a line says, by its name and its value. Assumes nothing.
use Prim.Native.Nat.{ℕ, zero, suc, ◌<◌, ◌≤◌}
use mathlib.Core.Path.{◌≡◌, refl, sym, ap, ◌∙◌}
use mathlib.Core.Bool.{true, false, cond}
use mathlib.Core.List.{List}
use native.Mathlib.Omega.{arith}
use borrow.Author.Tests.{ne_eqb, lt-ltb, le-ltb}
use lib.Dec.{lit≤}
use lib.ListN.{length, take, get_or}
use Rattle.text.specs.Ascii.{ascii}
use Rattle.same.specs.Same.{same}
use Rattle.rsp_line.specs.Hex.{is_hex, bytes_of}
use Rattle.rsp_line.specs.Decimal.{number_of}
use Rattle.rsp_line.specs.Names.{name_of}
use Rattle.rsp_line.specs.Lines.{Says, counts, gives, hash, unread, on_number, on_named}
use Rattle.rsp_line.specs.Lines.{field_says, heading_says, name_end, heading_in, field, says}
use Rattle.rsp_line.specs.Values.{Value, Digits}
use Rattle.rsp_line.specs.declared.name.Name as code
use Rattle.rsp_line.specs.Names as names

-- a name but COUNT is a field's
pub field_number : (name : code.Name) → (name ≡ code.TheVariants.Count → ⊥) → (1 ≤ names.number_of name) × (names.number_of name ≤ 8)
field_number code.TheVariants.EntropyInput other = (lit≤ tt, lit≤ tt)
field_number code.TheVariants.Nonce other = (lit≤ tt, lit≤ tt)
field_number code.TheVariants.PersonalizationString other = (lit≤ tt, lit≤ tt)
field_number code.TheVariants.AdditionalInput other = (lit≤ tt, lit≤ tt)
field_number code.TheVariants.ReturnedBits other = (lit≤ tt, lit≤ tt)
field_number code.TheVariants.EntropyInputReseed other = (lit≤ tt, lit≤ tt)
field_number code.TheVariants.AdditionalInputReseed other = (lit≤ tt, lit≤ tt)
field_number code.TheVariants.EntropyInputPR other = (lit≤ tt, lit≤ tt)
field_number code.TheVariants.Count other = absurd (other refl)

-- a name is not empty
name-some : (s : List ℕ) (n : ℕ) → (name_of (take n s) ≡ 0 → ⊥) → 0 < n
unfolding name_of same ascii
name-some s zero known = absurd (known refl)
name-some s (suc n) known = omega arith

module _ (s : List ℕ) where
  -- what stands between the brackets has a sign
  pub in_sign : name_end s < length s → heading_in s ≡ on_named heading_says s
  unfolding heading_in
  in_sign h = ap (λ b. cond b (on_named heading_says s) (hash (same (ascii "SHA-256") s))) (lt-ltb (name_end s) (length s) h)

  pub field_bad : ((f : (name value : List ℕ) → Says) → on_named f s ≡ unread) → field s ≡ unread
  unfolding field
  field_bad bad = bad (λ name. field_says (name_of name))

  -- a name and its value
  module _ {value : List ℕ} (found : Value s value) {k n : ℕ} (here : n ≡ name_end s) (named : k ≡ name_of (take n s)) where
    field_at : field s ≡ field_says k value
    unfolding field
    field_at =
        let name-is : name_of (take (name_end s) s) ≡ k = ap (λ n. name_of (take n s)) (sym here) ∙ sym named in
        found.then (λ name. field_says (name_of name)) ∙ ap (λ k. field_says k value) name-is

    pub field_unknown : k ≡ 0 → field s ≡ unread
    unfolding field_says
    field_unknown none = field_at ∙ rw none refl

    pub field_count : k ≡ 9 → field s ≡ on_number (number_of value) counts
    unfolding field_says
    field_count is = field_at ∙ rw is refl

    -- of digits
    module _ (known : 1 ≤ k) (other : k ≤ 8) where
      pub field_torn : is_hex value ≡ false → field s ≡ unread
      unfolding field_says
      field_torn torn = field_at ∙ rw (ne_eqb k 0 (λ e. omega (arith, e)), ne_eqb k 9 (λ e. omega (arith, e)), torn) refl

      pub field_whole : is_hex value ≡ true → field s ≡ gives k (bytes_of value)
      unfolding field_says
      field_whole whole = field_at ∙ rw (ne_eqb k 0 (λ e. omega (arith, e)), ne_eqb k 9 (λ e. omega (arith, e)), whole) refl

      pub field_digits : length s ≤ 4096 → is_hex value ≡ true → Digits s value
      field_digits fits whole =
          let some : 0 < n = name-some s n (λ none. omega (arith, none, named, known)) in
          record { last = found.last; whole = whole; short = omega (arith, found.short, some, here, fits) }

  module _ (fits : length s ≤ 4096) (some : length s ≡ 0 → ⊥) where
    pub says-field : (get_or s 0 0 ≡ 35 → ⊥) → (get_or s 0 0 ≡ 91 → ⊥) → says s ≡ field s
    unfolding says
    says-field other another =
        rw (le-ltb 4096 (length s) fits, ne_eqb (length s) 0 some, ne_eqb (get_or s 0 0) 35 other, ne_eqb (get_or s 0 0) 91 another)
