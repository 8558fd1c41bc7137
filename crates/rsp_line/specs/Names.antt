-- The names of fields and of headings, each with the space that stands behind it, and the numbers that stand for them here.
use Rattle.std.specs.Prelude.{ℕ, cond, List, Option, Some, None}
use Rattle.same.specs.Same.{same}
use Rattle.text.specs.Ascii.{ascii}
use Rattle.rsp_line.specs.declared.name.Name as code

abbrev pub entropy_input : ℕ
entropy_input = 1

abbrev pub nonce : ℕ
nonce = 2

abbrev pub personalization_string : ℕ
personalization_string = 3

abbrev pub additional_input : ℕ
additional_input = 4

abbrev pub returned_bits : ℕ
returned_bits = 5

abbrev pub entropy_input_reseed : ℕ
entropy_input_reseed = 6

abbrev pub additional_input_reseed : ℕ
additional_input_reseed = 7

abbrev pub entropy_input_pr : ℕ
entropy_input_pr = 8

abbrev pub count : ℕ
count = 9

-- the number of each name of the code, and 0 for none of them
abbrev pub number_of : code.Name → ℕ
number_of code.TheVariants.EntropyInput = entropy_input
number_of code.TheVariants.Nonce = nonce
number_of code.TheVariants.PersonalizationString = personalization_string
number_of code.TheVariants.AdditionalInput = additional_input
number_of code.TheVariants.ReturnedBits = returned_bits
number_of code.TheVariants.EntropyInputReseed = entropy_input_reseed
number_of code.TheVariants.AdditionalInputReseed = additional_input_reseed
number_of code.TheVariants.EntropyInputPR = entropy_input_pr
number_of code.TheVariants.Count = count

abbrev pub name_number : Option code.Name → ℕ
name_number None = 0
name_number (Some name) = number_of name

-- 0 for a name that is none of these
unfoldable pub name_of : List ℕ → ℕ
name_of s =
    cond (same (ascii "EntropyInput ") s) entropy_input
    (cond (same (ascii "Nonce ") s) nonce
    (cond (same (ascii "PersonalizationString ") s) personalization_string
    (cond (same (ascii "AdditionalInput ") s) additional_input
    (cond (same (ascii "ReturnedBits ") s) returned_bits
    (cond (same (ascii "EntropyInputReseed ") s) entropy_input_reseed
    (cond (same (ascii "AdditionalInputReseed ") s) additional_input_reseed
    (cond (same (ascii "EntropyInputPR ") s) entropy_input_pr
    (cond (same (ascii "COUNT ") s) count 0))))))))

-- the field whose length in bits a heading gives, 0 for a heading that gives none
unfoldable pub length_of : List ℕ → ℕ
length_of s =
    cond (same (ascii "EntropyInputLen ") s) entropy_input
    (cond (same (ascii "NonceLen ") s) nonce
    (cond (same (ascii "PersonalizationStringLen ") s) personalization_string
    (cond (same (ascii "AdditionalInputLen ") s) additional_input
    (cond (same (ascii "ReturnedBitsLen ") s) returned_bits 0))))
