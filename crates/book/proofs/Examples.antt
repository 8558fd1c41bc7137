-- Document 01's book and its output, and both sides of a number's edges, computed from the definitions. Assumes nothing.
use Prim.Native.Nat.{ℕ, ◌^◌, ◌-◌}
use mathlib.Core.Path.{◌≡◌, refl}
use mathlib.Core.List.{List, [], ◌∷◌, ◌++◌}
use lib.ListN.{replicate}
use Rattle.book.specs.Reading.{found, bad}
use Rattle.book.specs.Numbers.{groups, lenient_at, needless, number_at, group_bytes, number_bytes}
use Rattle.book.specs.Strings.{Part, string_at, string_bytes}
use Rattle.book.specs.Records.{open_at, reseed_at, draw_at, fresh_draw_at, close_at, inquire_at, fields_at, record_at}
use Rattle.book.specs.Records.{Open, Draw, Close, Inquire, opens, draws, closes, inquires}
use Rattle.book.specs.Books.{more, end, contents_from, contents_at, contents_of, book_bytes}
use Rattle.text.specs.Ascii.{ascii}
use Rattle.text.specs.Digits.{digit, digits, decimal, hex}
use Rattle.book.specs.Lines.{value_text, line_end, line, bad_line}

abbrev example : List ℕ
example =
    0x01 ∷ 0x01 ∷ 0x80 ∷ 0x01 ∷ 0x01 ∷ 0x00 ∷ 0x10 ∷
    (replicate 16 0xaa ++
    (0x08 ∷
    (replicate 8 0x55 ++
    (0x00 ∷
    0x03 ∷ 0x10 ∷ 0x00 ∷ 0x00 ∷ 0x00 ∷
    0x03 ∷ 0x10 ∷ 0x00 ∷ 0x00 ∷ 0x00 ∷
    0x06 ∷ 0x10 ∷
    0x05 ∷ 0x10 ∷
    0x05 ∷ 0x10 ∷ []))))

part : (start size : ℕ) → Part
part start size = record { start = start; length = size }

example_read : contents_of example
    ≡ more (Open 1 128 1 0 (part 7 16) (part 24 8) (part 33 0))
    (more (Draw 16 0 0 (part 38 0)) (more (Draw 16 0 0 (part 43 0)) (more (Inquire 16) (more (Close 16) (more (Close 16) end)))))
unfolding contents_of contents_at contents_from record_at fields_at open_at reseed_at draw_at fresh_draw_at close_at inquire_at part
example_read = unfold string_at number_at needless lenient_at groups in refl

example_written : book_bytes
    (opens 1 128 1 0 (replicate 16 0xaa) (replicate 8 0x55) [] ∷
    draws 16 0 0 [] ∷ draws 16 0 0 [] ∷ inquires 16 ∷ closes 16 ∷ closes 16 ∷ [])
    ≡ example
unfolding book_bytes string_bytes number_bytes group_bytes
example_written = refl

-- its six lines
example_lines :
    (line 1 0 18 16 [] ≡ ascii "1 0 18 16" ++ line_end)
    × (line 3 0 8 0 [] ≡ ascii "3 0 8 -" ++ line_end)
    × (line 3 12 0 0 [] ≡ ascii "3 12 0 -" ++ line_end)
    × (line 6 0 0 0 [] ≡ ascii "6 0 0 0" ++ line_end)
    × (line 5 0 0 0 [] ≡ ascii "5 0 0 -" ++ line_end)
    × (line 5 2 0 0 [] ≡ ascii "5 2 0 -" ++ line_end)
unfolding line value_text decimal digits digit ascii
example_lines = (refl, refl, refl, refl, refl, refl)

-- two bytes drawn, and a record at byte 33 that can't be read
more_lines : (line 4 0 12 0 (0x0f ∷ 0xa0 ∷ []) ≡ ascii "4 0 12 0fa0" ++ line_end)
    × (bad_line 33 ≡ ascii "book 33" ++ line_end)
unfolding line bad_line value_text decimal digits digit hex ascii
more_lines = (refl, refl)

-- the largest number; a tenth group of 2; eleven groups; a needless group; cut short
numbers : (number_at (replicate 9 0xff ++ (0x01 ∷ [])) 0 ≡ found (2 ^ 64 - 1) 10)
    × (number_at (replicate 9 0xff ++ (0x02 ∷ [])) 0 ≡ bad)
    × (lenient_at (replicate 10 0x80 ++ (0x00 ∷ [])) 0 ≡ bad)
    × (number_at (0x81 ∷ 0x00 ∷ []) 0 ≡ bad)
    × (lenient_at (0x81 ∷ 0x00 ∷ []) 0 ≡ found 1 2)
    × (lenient_at (0x81 ∷ []) 0 ≡ bad)
unfolding number_at needless lenient_at groups
numbers = (refl, refl, refl, refl, refl, refl)

-- both sides of the limits of a string, a fresh right and a draw's length; the kinds around the six
limits : (string_at (0x80 ∷ 0x10 ∷ replicate 2048 0x00) 0 ≡ found (part 2 2048) 2050)
    × (string_at (0x81 ∷ 0x10 ∷ replicate 2049 0x00) 0 ≡ bad)
    × (record_at (0x01 ∷ replicate 3 0x00 ++ (0x01 ∷ replicate 3 0x00)) 0 ≡ found (Open 0 0 0 1 (part 6 0) (part 7 0) (part 8 0)) 8)
    × (record_at (0x01 ∷ replicate 3 0x00 ++ (0x02 ∷ replicate 3 0x00)) 0 ≡ bad)
    × (record_at (0x03 ∷ 0x00 ∷ 0x00 ∷ 0x80 ∷ 0x80 ∷ 0x04 ∷ 0x00 ∷ []) 0 ≡ found (Draw 0 0 65536 (part 7 0)) 7)
    × (record_at (0x03 ∷ 0x00 ∷ 0x00 ∷ 0x81 ∷ 0x80 ∷ 0x04 ∷ 0x00 ∷ []) 0 ≡ bad)
    × (record_at (0x00 ∷ 0x00 ∷ []) 0 ≡ bad)
    × (record_at (0x07 ∷ 0x00 ∷ []) 0 ≡ bad)
unfolding record_at fields_at open_at reseed_at draw_at fresh_draw_at close_at inquire_at string_at number_at needless
    lenient_at groups part
limits = (refl, refl, refl, refl, refl, refl, refl, refl)
