-- How fields and a case's number are written, and which lines are read as them.
use Rattle.std.specs.Prelude.{ℕ, ◌≤◌, ◌≡◌, true, ◌⊎◌, List, [], ◌∷◌, ◌++◌, length, get_or, Some}
use Rattle.text.specs.Ascii.{ascii}
use Rattle.text.specs.Digits.{decimal, hex}
use Rattle.rsp_line.specs.Hex.{is_hex, bytes_of}
use Rattle.rsp_line.specs.Decimal.{number_of}
use Rattle.rsp_line.specs.Names.{entropy_input, entropy_input_pr, count}

-- the names by their numbers, each with its space; 0 stands for none
unfoldable pub name_text : (name : ℕ) → List ℕ
name_text name =
    get_or
    ([] ∷ ascii "EntropyInput " ∷ ascii "Nonce " ∷ ascii "PersonalizationString " ∷ ascii "AdditionalInput " ∷ ascii "ReturnedBits " ∷
    ascii "EntropyInputReseed " ∷ ascii "AdditionalInputReseed " ∷ ascii "EntropyInputPR " ∷ ascii "COUNT " ∷ [])
    name
    []

abbrev pub field_line : (name : ℕ) (v : List ℕ) → List ℕ
field_line name v = name_text name ++ ascii "= " ++ hex v

abbrev pub count_line : (n : ℕ) → List ℕ
count_line n = ascii "COUNT = " ++ decimal n

-- a name and a value make the line s; where the value is empty, the sign may end it
pub record Line (name : ℕ) (value s : List ℕ) : Type 0 where
  pub fits : length s ≤ 4096
  pub is : (s ≡ name_text name ++ ascii "= " ++ value) ⊎ ((value ≡ []) × (s ≡ name_text name ++ ascii "="))

-- the line s gives the field of that name the value v, in digits of either case
pub record Gives (name : ℕ) (v s : List ℕ) : Type 0 where
  pub field : (entropy_input ≤ name) × (name ≤ entropy_input_pr)
  pub digits : List ℕ
  pub whole : is_hex digits ≡ true
  pub are : bytes_of digits ≡ v
  pub line : Line name digits s

-- the line s begins the case of that number, with leading zeros or without
pub record Counts (n : ℕ) (s : List ℕ) : Type 0 where
  pub digits : List ℕ
  pub are : number_of digits ≡ Some n
  pub line : Line count digits s
