-- What a line says, its end not being of it. `#` is 35, a space 32, `=` 61, `[` 91 and `]` 93.
use Rattle.std.specs.Prelude.{ℕ, suc, ◌+◌, ◌-◌, Bool, true, false, ◌&&◌, ◌||◌, cond, List, [], ◌∷◌, eqb, leb, ltb, length, take, drop}
use Rattle.std.specs.Prelude.{get_or, Option, Some, None}
use Rattle.text.specs.Ascii.{ascii}
use Rattle.rsp_line.specs.Hex.{is_hex, bytes_of}
use Rattle.rsp_line.specs.Decimal.{number_of}
use Rattle.same.specs.Same.{same}
use Rattle.rsp_line.specs.Names.{count, name_of, length_of}

pub data Says : Type 0 where
  nothing : Says
  -- a heading: the hash, ours or another; prediction resistance; the length of a field in bits
  hash : (ours : Bool) → Says
  resists : Bool → Says
  bits : (name n : ℕ) → Says
  counts : (n : ℕ) → Says
  gives : (name : ℕ) (value : List ℕ) → Says
  unread : Says

abbrev pub on_number : Option ℕ → (ℕ → Says) → Says
on_number None f = unread
on_number (Some n) f = f n

-- a field's value, or a case's number
unfoldable pub field_says : (name : ℕ) (value : List ℕ) → Says
field_says name value =
    cond (eqb name 0) unread
    (cond (eqb name count) (on_number (number_of value) counts)
    (cond (is_hex value) (gives name (bytes_of value)) unread))

-- `PredictionResistance = True` or `False`, or a length
unfoldable pub truth_of : (value : List ℕ) → Says
truth_of value = cond (same (ascii "True") value) (resists true) (cond (same (ascii "False") value) (resists false) unread)

unfoldable pub length_says : (name : ℕ) (value : List ℕ) → Says
length_says name value = cond (eqb name 0) unread (on_number (number_of value) (bits name))

abbrev pub heading_says : (name value : List ℕ) → Says
heading_says name value = cond (same (ascii "PredictionResistance ") name) (truth_of value) (length_says (length_of name) value)

-- how many characters stand before the first `=`: all of them where there is none
unfoldable pub name_end : List ℕ → ℕ
name_end [] = 0
name_end (c ∷ s) = cond (eqb c 61) 0 (suc (name_end s))

-- `Name = value`: the name with its space; behind the `=` a space and the value, or nothing at all
abbrev pub on_named : (says : (name value : List ℕ) → Says) → List ℕ → Says
on_named says s =
    let n = name_end s in
    cond (ltb n (length s) && (eqb (n + 1) (length s) || eqb (get_or s (n + 1) 0) 32)) (says (take n s) (drop (n + 2) s)) unread

-- what stands between the brackets: a hash, which has no `=`, or a name and its value
unfoldable pub heading_in : List ℕ → Says
heading_in s = cond (ltb (name_end s) (length s)) (on_named heading_says s) (hash (same (ascii "SHA-256") s))

unfoldable pub heading : List ℕ → Says
heading s = cond (leb 2 (length s) && eqb (get_or s (length s - 1) 0) 93) (heading_in (take (length s - 2) (drop 1 s))) unread

unfoldable pub field : List ℕ → Says
field s = on_named (λ name. field_says (name_of name)) s

-- a line of at most 4,096 characters
unfoldable pub says : List ℕ → Says
says s =
    cond (ltb 4096 (length s)) unread
    (cond (eqb (length s) 0 || eqb (get_or s 0 0) 35) nothing
    (cond (eqb (get_or s 0 0) 91) (heading s) (field s)))
