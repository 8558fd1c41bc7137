-- Lines as they stand in the published files, and lines that can't be read, computed from the definitions. Assumes nothing.
use Prim.Native.Nat.{◌^◌, ◌-◌}
use mathlib.Core.Path.{◌≡◌, refl}
use mathlib.Core.Bool.{true, false}
use mathlib.Core.List.{[], ◌∷◌, ◌++◌}
use lib.ListN.{replicate}
use Rattle.text.specs.Ascii.{ascii}
use Rattle.rsp_line.specs.Hex.{digit_of, all_digits, is_hex, bytes_of}
use Rattle.rsp_line.specs.Decimal.{number_from, number_of}
use Rattle.same.specs.Same.{same}
use Rattle.rsp_line.specs.Names.{nonce, entropy_input, entropy_input_pr, name_of, length_of}
use Rattle.rsp_line.specs.Lines.{nothing, hash, resists, bits, counts, gives, unread}
use Rattle.rsp_line.specs.Lines.{field_says, truth_of, length_says, name_end, heading_in, heading, field, says}

headings :
    (says (ascii "[SHA-256]") ≡ hash true)
    × (says (ascii "[SHA-512/256]") ≡ hash false)
    × (says (ascii "[]") ≡ hash false)
    × (says (ascii "[PredictionResistance = True]") ≡ resists true)
    × (says (ascii "[PredictionResistance = False]") ≡ resists false)
    × (says (ascii "[EntropyInputLen = 256]") ≡ bits entropy_input 256)
    × (says (ascii "[NonceLen = 0128]") ≡ bits nonce 128)
unfolding says heading heading_in truth_of length_says name_end length_of same number_of number_from ascii
headings = (refl, refl, refl, refl, refl, refl, refl)

fields :
    (says (ascii "COUNT = 0") ≡ counts 0)
    × (says (ascii "COUNT = 18446744073709551615") ≡ counts (2 ^ 64 - 1))
    × (says (ascii "EntropyInputPR = 0aFf") ≡ gives entropy_input_pr (0x0a ∷ 0xff ∷ []))
    × (says (ascii "Nonce = ") ≡ gives nonce [])
    × (says (ascii "Nonce =") ≡ gives nonce [])
    × (says [] ≡ nothing)
    × (says (ascii "# CAVS 14.3") ≡ nothing)
unfolding says field field_says name_end name_of same number_of number_from is_hex all_digits digit_of bytes_of ascii
fields = (refl, refl, refl, refl, refl, refl, refl)

-- a number of 2^64, digits that are no whole byte, a character that is no digit, no space before or behind the sign, an unknown name,
-- and a bracket alone
torn :
    (says (ascii "COUNT = 18446744073709551616") ≡ unread)
    × (says (ascii "COUNT = ") ≡ unread)
    × (says (ascii "Nonce = 0aF") ≡ unread)
    × (says (ascii "Nonce = 0g") ≡ unread)
    × (says (ascii "Nonce= 00") ≡ unread)
    × (says (ascii "Nonce =00") ≡ unread)
    × (says (ascii "Key = 00") ≡ unread)
    × (says (ascii "[") ≡ unread)
    × (says (ascii "[PredictionResistance = true]") ≡ unread)
    × (says (ascii "[ReturnedBitsLen = ]") ≡ unread)
unfolding says heading heading_in truth_of length_says field field_says name_end name_of length_of same number_of
    number_from is_hex all_digits
torn = unfold digit_of ascii in (refl, refl, refl, refl, refl, refl, refl, refl, refl, refl)

-- both sides of the limit
limit : (says (ascii "#" ++ replicate 4095 32) ≡ nothing) × (says (ascii "#" ++ replicate 4096 32) ≡ unread)
unfolding says ascii
limit = (refl, refl)
