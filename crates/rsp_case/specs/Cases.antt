-- A case: its number, the opening's strings, its steps in the file's order, and the bits that the last draw must give.
use Rattle.std.specs.Prelude.{ℕ, cond, List, [], ◌∷◌, ◌++◌, eqb, drop}
use Rattle.rsp_line.specs.Names.{entropy_input, nonce, personalization_string, additional_input}
use Rattle.rsp_line.specs.Names.{entropy_input_reseed, additional_input_reseed, entropy_input_pr}

pub data Step : Type 0 where
  draws : (additional : List ℕ) → Step
  fresh_draws reseeds : (entropy additional : List ℕ) → Step

pub record Case : Type 0 where
  pub number : ℕ
  pub entropy : List ℕ
  pub nonce : List ℕ
  pub personalization : List ℕ
  pub steps : List Step
  pub returned : List ℕ

-- a line of it: a field's name and value
pub record Field : Type 0 where
  pub name : ℕ
  pub value : List ℕ

-- ---- how it is written, behind its COUNT

infix 50 ◌is◌
abbrev pub ◌is◌ : (name : ℕ) (value : List ℕ) → Field
name is value = record { name = name; value = value }

abbrev pub step_fields : Step → List Field
step_fields (draws additional) = (additional_input is additional) ∷ []
step_fields (fresh_draws entropy additional) = (additional_input is additional) ∷ (entropy_input_pr is entropy) ∷ []
step_fields (reseeds entropy additional) = (entropy_input_reseed is entropy) ∷ (additional_input_reseed is additional) ∷ []

unfoldable pub steps_fields : List Step → List Field
steps_fields [] = []
steps_fields (s ∷ steps) = step_fields s ++ steps_fields steps

abbrev pub fields_of : Case → List Field
fields_of c =
    (entropy_input is c.entropy) ∷ (nonce is c.nonce) ∷ (personalization_string is c.personalization) ∷ steps_fields c.steps

-- ---- how it is read: EntropyInputReseed and the field behind it are a reseed, a field with EntropyInputPR behind it is a fresh draw,
-- any other a draw

unfoldable pub steps_of : List Field → List Step
steps_of [] = []
steps_of (f ∷ []) = draws f.value ∷ []
steps_of (f ∷ g ∷ fields) =
    cond (eqb f.name entropy_input_reseed) (reseeds f.value g.value ∷ steps_of fields)
    (cond (eqb g.name entropy_input_pr) (fresh_draws g.value f.value ∷ steps_of fields)
    (draws f.value ∷ steps_of (g ∷ fields)))

abbrev pub first : List Field → List ℕ
first [] = []
first (f ∷ fields) = f.value

abbrev pub case_of : (number : ℕ) (fields : List Field) (returned : List ℕ) → Case
case_of number fields returned =
    record {
      number = number;
      entropy = first fields;
      nonce = first (drop 1 fields);
      personalization = first (drop 2 fields);
      steps = steps_of (drop 3 fields);
      returned = returned;
    }
