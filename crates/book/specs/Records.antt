-- The six kinds of record, kind first, each with its fields in order; what a record says, and how it is written.
-- The kind is a number as any other.
use Rattle.std.specs.Prelude.{ℕ, ◌^◌, ◌<◌, ◌≤◌, cond, List, [], ◌∷◌, ◌++◌, length, eqb}
use Rattle.book.specs.Reading.{Reader, ◌>>=◌, return, refused, Stands}
use Rattle.book.specs.Numbers.{number_at, number_up_to, number_bytes}
use Rattle.book.specs.Strings.{Part, string_at, bytes_of, In, string_bytes}

-- what is read: its strings are parts of the book
pub data Record : Type 0 where
  Open : (mechanism strength interval fresh : ℕ) (entropy nonce personalization : Part) → Record
  Reseed : (handle : ℕ) (entropy additional : Part) → Record
  Draw : (handle strength request : ℕ) (additional : Part) → Record
  FreshDraw : (handle strength request : ℕ) (entropy additional : Part) → Record
  Close : (handle : ℕ) → Record
  Inquire : (handle : ℕ) → Record

-- 1, open
unfoldable pub open_at : Reader Record
open_at = do
  mechanism ← number_at
  strength ← number_at
  interval ← number_at
  fresh ← number_up_to 1
  entropy ← string_at
  nonce ← string_at
  personalization ← string_at
  return (Open mechanism strength interval fresh entropy nonce personalization)

-- 2, reseed
unfoldable pub reseed_at : Reader Record
reseed_at = do
  handle ← number_at
  entropy ← string_at
  additional ← string_at
  return (Reseed handle entropy additional)

-- 3, draw
unfoldable pub draw_at : Reader Record
draw_at = do
  handle ← number_at
  strength ← number_at
  request ← number_up_to 65536
  additional ← string_at
  return (Draw handle strength request additional)

-- 4, fresh draw
unfoldable pub fresh_draw_at : Reader Record
fresh_draw_at = do
  handle ← number_at
  strength ← number_at
  request ← number_up_to 65536
  entropy ← string_at
  additional ← string_at
  return (FreshDraw handle strength request entropy additional)

-- 5, close
unfoldable pub close_at : Reader Record
close_at = do
  handle ← number_at
  return (Close handle)

-- 6, inquire
unfoldable pub inquire_at : Reader Record
inquire_at = do
  handle ← number_at
  return (Inquire handle)

unfoldable pub fields_at : (kind : ℕ) → Reader Record
fields_at kind =
    cond (eqb kind 1) open_at
    (cond (eqb kind 2) reseed_at
    (cond (eqb kind 3) draw_at
    (cond (eqb kind 4) fresh_draw_at
    (cond (eqb kind 5) close_at
    (cond (eqb kind 6) inquire_at refused)))))

unfoldable pub record_at : Reader Record
record_at = do
  kind ← number_at
  fields_at kind

-- what a record says: its strings are bytes, wherever they stand
pub data Meaning : Type 0 where
  opens : (mechanism strength interval fresh : ℕ) (entropy nonce personalization : List ℕ) → Meaning
  reseeds : (handle : ℕ) (entropy additional : List ℕ) → Meaning
  draws : (handle strength request : ℕ) (additional : List ℕ) → Meaning
  fresh_draws : (handle strength request : ℕ) (entropy additional : List ℕ) → Meaning
  closes : (handle : ℕ) → Meaning
  inquires : (handle : ℕ) → Meaning

abbrev pub meaning_of : (book : List ℕ) → Record → Meaning
meaning_of book (Open mechanism strength interval fresh entropy nonce personalization) =
    opens mechanism strength interval fresh (bytes_of book entropy) (bytes_of book nonce) (bytes_of book personalization)
meaning_of book (Reseed handle entropy additional) = reseeds handle (bytes_of book entropy) (bytes_of book additional)
meaning_of book (Draw handle strength request additional) = draws handle strength request (bytes_of book additional)
meaning_of book (FreshDraw handle strength request entropy additional) =
    fresh_draws handle strength request (bytes_of book entropy) (bytes_of book additional)
meaning_of book (Close handle) = closes handle
meaning_of book (Inquire handle) = inquires handle

-- what is written: the kind, then the fields in order
abbrev pub kind_of : Meaning → ℕ
kind_of (opens mechanism strength interval fresh entropy nonce personalization) = 1
kind_of (reseeds handle entropy additional) = 2
kind_of (draws handle strength request additional) = 3
kind_of (fresh_draws handle strength request entropy additional) = 4
kind_of (closes handle) = 5
kind_of (inquires handle) = 6

abbrev pub field_bytes : Meaning → List (List ℕ)
field_bytes (opens mechanism strength interval fresh entropy nonce personalization) =
    number_bytes mechanism ∷ number_bytes strength ∷ number_bytes interval ∷ number_bytes fresh ∷
    string_bytes entropy ∷ string_bytes nonce ∷ string_bytes personalization ∷ []
field_bytes (reseeds handle entropy additional) = number_bytes handle ∷ string_bytes entropy ∷ string_bytes additional ∷ []
field_bytes (draws handle strength request additional) =
    number_bytes handle ∷ number_bytes strength ∷ number_bytes request ∷ string_bytes additional ∷ []
field_bytes (fresh_draws handle strength request entropy additional) =
    number_bytes handle ∷ number_bytes strength ∷ number_bytes request ∷ string_bytes entropy ∷ string_bytes additional ∷ []
field_bytes (closes handle) = number_bytes handle ∷ []
field_bytes (inquires handle) = number_bytes handle ∷ []

abbrev pub joined : List (List ℕ) → List ℕ
joined [] = []
joined (x ∷ l) = x ++ joined l

abbrev pub record_bytes : Meaning → List ℕ
record_bytes m = joined (number_bytes (kind_of m) ∷ field_bytes m)

-- the limits of a string, and of the numbers and strings of a record
abbrev pub Word : ℕ → Type 0
Word n = n < 2 ^ 64

abbrev pub Short : List ℕ → Type 0
Short s = length s ≤ 2048

abbrev pub Fits : Meaning → Type 0
Fits (opens mechanism strength interval fresh entropy nonce personalization) =
    Word mechanism × Word strength × Word interval × (fresh ≤ 1) × Short entropy × Short nonce × Short personalization
Fits (reseeds handle entropy additional) = Word handle × Short entropy × Short additional
Fits (draws handle strength request additional) = Word handle × Word strength × (request ≤ 65536) × Short additional
Fits (fresh_draws handle strength request entropy additional) =
    Word handle × Word strength × (request ≤ 65536) × Short entropy × Short additional
Fits (closes handle) = Word handle
Fits (inquires handle) = Word handle

-- its strings are inside the book
abbrev pub PartsIn : (book : List ℕ) → Record → Type 0
PartsIn book (Open mechanism strength interval fresh entropy nonce personalization) =
    In book entropy × In book nonce × In book personalization
PartsIn book (Reseed handle entropy additional) = In book entropy × In book additional
PartsIn book (Draw handle strength request additional) = In book additional
PartsIn book (FreshDraw handle strength request entropy additional) = In book entropy × In book additional
PartsIn book (Close handle) = Unit {0}
PartsIn book (Inquire handle) = Unit {0}

-- a record that was read from place a to place b: it is within the limits, its strings are inside the book, and it stands there
-- as it is written
pub record ReadAs (book : List ℕ) (a b : ℕ) (r : Record) : Type 0 where
  pub fits : Fits (meaning_of book r)
  pub parts : PartsIn book r
  pub stands : Stands book a b (record_bytes (meaning_of book r))
