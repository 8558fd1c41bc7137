-- What running a book prints: a line for each record's answer, from a fresh table, and `book N` for what can't be read.
-- The table stands in 2,148 bytes, all zero at first. A draw here lends zeros; what is printed tells nothing of what was lent
-- (proofs/Lent.antt).
use Rattle.std.specs.Prelude.{ℕ, ◌+◌, ◌*◌, ◌≡◌, List, [], ◌++◌, eqb, take, replicate}
use Rattle.slots.specs.Sizes.{table_size}
use Rattle.table.specs.Calls.{Call, opens, reseeds, draws, fresh_draws, closes, inquires}
use Rattle.table.specs.OnBytes.{Told, Done, in_bytes}
use Rattle.book.specs.Lines.{line, bad_line}
use Rattle.book.specs.Records as records
use Rattle.book.specs.Records.{Meaning, meaning_of, kind_of}
use Rattle.text.specs.Writing.{Written, ◌then◌}
use Rattle.book.specs.Books.{Contents, more, end, stopped, contents_at, contents_of}

-- the call that a record asks for
abbrev pub call_of : Meaning → Call
call_of (records.opens mechanism strength interval fresh entropy nonce personalization) =
    opens mechanism strength interval (eqb fresh 1) entropy nonce personalization
call_of (records.reseeds handle entropy additional) = reseeds handle entropy additional
call_of (records.draws handle strength request additional) = draws handle strength (replicate request 0) additional
call_of (records.fresh_draws handle strength request entropy additional) =
    fresh_draws handle strength (replicate request 0) entropy additional
call_of (records.closes handle) = closes handle
call_of (records.inquires handle) = inquires handle

-- kind, answer, blocks, value
abbrev pub line_of : (kind : ℕ) → Done → List ℕ
line_of kind d = line kind d.told.number d.told.blocks d.told.value d.output

-- a record's line, and the table that its call leaves
unfoldable pub line_for : (table : List ℕ) → Meaning → List ℕ
line_for table m = line_of (kind_of m) (in_bytes (call_of m) table)

unfoldable pub table_after : (table : List ℕ) → Meaning → List ℕ
table_after table m = (in_bytes (call_of m) table).table

-- a book's contents, from a table on
unfoldable pub printed : (table book : List ℕ) → Contents → List ℕ
printed table book end = []
printed table book (stopped place) = bad_line place
printed table book (more r rest) = line_for table (meaning_of book r) ++ printed (table_after table (meaning_of book r)) book rest

-- what the program prints
unfoldable pub printed_of : (book : List ℕ) → List ℕ
printed_of book = printed (replicate table_size 0) book (contents_of book)

-- ---- what the functions promise on the way

-- what is still to be printed from a place of the book on
abbrev pub left : (table book : List ℕ) (at : ℕ) → List ℕ
left table book at = printed table book (contents_at book at)

-- room for the longest request, for the longest line, and for the text, which ends with the line that passes 4,096 bytes
abbrev pub output_size : ℕ
output_size = 65536

abbrev pub line_size : ℕ
line_size = 84 + 2 * output_size

abbrev pub text_size : ℕ
text_size = 4096 + line_size

-- how many bytes a record asks for
abbrev pub request_of : Meaning → ℕ
request_of (records.draws handle strength request additional) = request
request_of (records.fresh_draws handle strength request entropy additional) = request
request_of (records.opens mechanism strength interval fresh entropy nonce personalization) = 0
request_of (records.reseeds handle entropy additional) = 0
request_of (records.closes handle) = 0
request_of (records.inquires handle) = 0

-- a record was answered, and what it asked for is at the front of the output: its line is the record's, and the table is the next one
pub record Answers (table : List ℕ) (m : Meaning) (told : Told) (out next : List ℕ) : Type 0 where
  pub says : line (kind_of m) told.number told.blocks told.value (take (request_of m) out) ≡ line_for table m
  pub moves : next ≡ table_after table m

-- a record was run: its line is written behind the text, and the table is the next one
pub record Ran (table : List ℕ) (m : Meaning) (old text : Written) (next : List ℕ) : Type 0 where
  pub line : text ≡ old then line_for table m
  pub moves : next ≡ table_after table m
