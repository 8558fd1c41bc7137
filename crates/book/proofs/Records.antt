-- A record that is read and its bytes: what is written is read back, and nothing else is read as it.
-- Assumes for the latter that the book is of bytes.
use Prim.Native.Nat.{ℕ, ◌+◌, ◌<◌, ◌≤◌}
use mathlib.Core.Path.{◌≡◌, refl, sym, subst}
use mathlib.Core.Bool.{Bool, true, false, cond}
use mathlib.Core.List.{List, ◌++◌}
use native.Mathlib.Omega.{arith}
use borrow.Author.Tests.{eqb-true}
use lib.Dec.{eqb, lit<}
use lib.ListN.{length, length-append}
use Rattle.book.specs.Reading.{Read, Reader, found, on_found, refused, Stands}
use Rattle.book.specs.Numbers.{number_at, number_up_to, number_bytes}
use Rattle.book.specs.Strings.{Part, string_at, bytes_of, In, string_bytes}
use Rattle.book.specs.Records.{open_at, reseed_at, draw_at, fresh_draw_at, close_at, inquire_at, fields_at, record_at}
use Rattle.book.specs.Records.{Meaning, opens, reseeds, draws, fresh_draws, closes, inquires, meaning_of}
use Rattle.book.specs.Records.{kind_of, field_bytes, joined, record_bytes, Word, Short, Fits, PartsIn, ReadAs}
use Rattle.book.specs.Records.{Record, Open, Reseed, Draw, FreshDraw, Close, Inquire}
use Rattle.book.specs.Reading.{read_map}
use Rattle.book.proofs.Reading.{map-found}
use Rattle.book.proofs.Reading.{All, all_found, all_bad, all_then, Back, back_none, back_then}
use Rattle.book.proofs.Numbers.{number-written, number_only, up_to_read, up_to_number, length-number}
use Rattle.book.proofs.Strings.{string_inside, string_written, string_only}
use Rattle.standard.specs.Strings.{Bytes}
use Rattle.book.proofs.Standing.{stands-none, stands-then, stands-inside, stands-between}

-- ---- what is written is read back

module _ (book : List ℕ) where
  -- a field that stands there is read back, and then the others are
  module _ {Q : Record → Type 0} {y : List ℕ} where
    number-then :
        (v : ℕ) → Word v → {f : ℕ → ℕ → Read Record} → ((w : ℕ) → w ≡ v → Back book (f w) y Q)
        → Back book (λ place. on_found (number_at book place) f) (number_bytes v ++ y) Q
    number-then v fits =
        back_then book _ _ (number_bytes v) y (record { back = λ a b stands. (v, number-written book v fits stands, refl) })

    up_to_then :
        (limit v : ℕ) → v ≤ limit → Word v → {f : ℕ → ℕ → Read Record} → ((w : ℕ) → w ≡ v → Back book (f w) y Q)
        → Back book (λ place. on_found (number_up_to limit book place) f) (number_bytes v ++ y) Q
    up_to_then limit v few fits =
        back_then book _ _ (number_bytes v) y
        (record { back = λ a b stands. (v, up_to_read book limit a (number-written book v fits stands) few, refl) })

    string_then :
        (s : List ℕ) → Short s → {f : Part → ℕ → Read Record} → ((p : Part) → bytes_of book p ≡ s → Back book (f p) y Q)
        → Back book (λ place. on_found (string_at book place) f) (string_bytes s ++ y) Q
    string_then s few = back_then book _ _ (string_bytes s) y (record { back = λ a b stands. string_written book s few stands })

  -- the fields of a record of that meaning
  Written : (ℕ → Read Record) → Meaning → Type 0
  Written reading m = Back book reading (joined (field_bytes m)) (λ r. meaning_of book r ≡ m)

  fields-written : (m : Meaning) → Fits m → Written (fields_at (kind_of m) book) m
  unfolding fields_at open_at reseed_at draw_at fresh_draw_at close_at inquire_at Written
  fields-written (opens mechanism strength interval fresh entropy nonce personalization) fits =
      number-then mechanism fits.0 (λ mechanism' mechanism-is.
      number-then strength fits.1 (λ strength' strength-is.
      number-then interval fits.2 (λ interval' interval-is.
      up_to_then 1 fresh fits.3 (omega (arith, fits.3)) (λ fresh' fresh-is.
      string_then entropy fits.4 (λ entropy' entropy-is.
      string_then nonce fits.5 (λ nonce' nonce-is.
      string_then personalization fits.6 (λ personalization' personalization-is.
      back_none book (Open mechanism' strength' interval' fresh' entropy' nonce' personalization') cc)))))))
  fields-written (reseeds handle entropy additional) fits =
      number-then handle fits.0 (λ handle' handle-is.
      string_then entropy fits.1 (λ entropy' entropy-is.
      string_then additional fits.2 (λ additional' additional-is.
      back_none book (Reseed handle' entropy' additional') cc)))
  fields-written (draws handle strength request additional) fits =
      number-then handle fits.0 (λ handle' handle-is.
      number-then strength fits.1 (λ strength' strength-is.
      up_to_then 65536 request fits.2 (omega (arith, fits.2)) (λ request' request-is.
      string_then additional fits.3 (λ additional' additional-is.
      back_none book (Draw handle' strength' request' additional') cc))))
  fields-written (fresh_draws handle strength request entropy additional) fits =
      number-then handle fits.0 (λ handle' handle-is.
      number-then strength fits.1 (λ strength' strength-is.
      up_to_then 65536 request fits.2 (omega (arith, fits.2)) (λ request' request-is.
      string_then entropy fits.3 (λ entropy' entropy-is.
      string_then additional fits.4 (λ additional' additional-is.
      back_none book (FreshDraw handle' strength' request' entropy' additional') cc)))))
  fields-written (closes handle) fits =
      number-then handle fits (λ handle' handle-is.
      back_none book (Close handle') cc)
  fields-written (inquires handle) fits =
      number-then handle fits (λ handle' handle-is.
      back_none book (Inquire handle') cc)

  pub record_written : (m : Meaning) {a b : ℕ} → Fits m → Stands book a b (record_bytes m)
      → (r : Record) × (record_at book a ≡ found r b) × (meaning_of book r ≡ m)
  unfolding record_at Written
  record_written m {a} {b} fits stands =
      (number-then (kind_of m) (kind_word m) {f = λ kind. fields_at kind book}
      (λ kind kind_is. subst (λ k. Written (fields_at k book) m) (sym kind_is) (fields-written m fits))
      ).back a b stands
    where
      kind_word : (m : Meaning) → Word (kind_of m)
      kind_word (opens mechanism strength interval fresh entropy nonce personalization) = lit< tt
      kind_word (reseeds handle entropy additional) = lit< tt
      kind_word (draws handle strength request additional) = lit< tt
      kind_word (fresh_draws handle strength request entropy additional) = lit< tt
      kind_word (closes handle) = lit< tt
      kind_word (inquires handle) = lit< tt

-- ---- and nothing else is read

module _ (book : List ℕ) (bytes : Bytes book) where
  -- what is known of a field that was read holds for the reading of the others
  module _ {Q : Record → ℕ → Type 0} (a : ℕ) where
    after-number :
        {f : ℕ → ℕ → Read Record} → ((v b : ℕ) → Word v × Stands book a b (number_bytes v) → All Q (f v b))
        → All Q (on_found (number_at book a) f)
    after-number = all_then _ Q (number_at book a) _ (record { of = λ e. number_only book bytes e })

    after_up_to :
        (limit : ℕ) {f : ℕ → ℕ → Read Record} → ((v b : ℕ) → (v ≤ limit) × Stands book a b (number_bytes v) → All Q (f v b))
        → All Q (on_found (number_up_to limit book a) f)
    after_up_to limit =
        all_then _ Q (number_up_to limit book a) _
        (record {
          of = λ e.
              let number = up_to_number book limit a e in
              (number.1, (number_only book bytes number.0).1);
        })

    after_string :
        {f : Part → ℕ → Read Record}
        → ((p : Part) (b : ℕ) → Short (bytes_of book p) × In book p × Stands book a b (string_bytes (bytes_of book p)) → All Q (f p b))
        → All Q (on_found (string_at book a) f)
    after_string =
        all_then _ Q (string_at book a) _
        (record {
          of = λ e.
              let read = string_inside book a e in
              let only = string_only book bytes e in
              (only.0, omega (arith, read.ends, read.inside), only.1);
        })

  -- the fields of a record of that kind were read
  record FieldsRead (kind a : ℕ) (r : Record) (b : ℕ) : Type 0 where
    kind_is : kind_of (meaning_of book r) ≡ kind
    fits : Fits (meaning_of book r)
    parts : PartsIn book r
    stands : Stands book a b (joined (field_bytes (meaning_of book r)))

  open_only : (a : ℕ) → All (FieldsRead 1 a) (open_at book a)
  unfolding open_at
  open_only a =
      after-number a (λ mechanism past-mechanism mechanism-is.
      after-number past-mechanism (λ strength past-strength strength-is.
      after-number past-strength (λ interval past-interval interval-is.
      after_up_to past-interval 1 (λ fresh past-fresh fresh-is.
      after_string past-fresh (λ entropy past-entropy entropy-is.
      after_string past-entropy (λ nonce past-nonce nonce-is.
      after_string past-nonce (λ personalization past-personalization personalization-is.
      all_found _ _ _
      (record {
        kind_is = refl;
        fits = (mechanism-is.0, strength-is.0, interval-is.0, fresh-is.0, entropy-is.0, nonce-is.0, personalization-is.0);
        parts = (entropy-is.1, nonce-is.1, personalization-is.1);
        stands =
            stands-then book mechanism-is.1
            (stands-then book strength-is.1
            (stands-then book interval-is.1
            (stands-then book fresh-is.1
            (stands-then book entropy-is.2
            (stands-then book nonce-is.2
            (stands-then book personalization-is.2 (stands-none book past-personalization)))))));
      }))))))))

  reseed_only : (a : ℕ) → All (FieldsRead 2 a) (reseed_at book a)
  unfolding reseed_at
  reseed_only a =
      after-number a (λ handle past-handle handle-is.
      after_string past-handle (λ entropy past-entropy entropy-is.
      after_string past-entropy (λ additional past-additional additional-is.
      all_found _ _ _
      (record {
        kind_is = refl;
        fits = (handle-is.0, entropy-is.0, additional-is.0);
        parts = (entropy-is.1, additional-is.1);
        stands =
            stands-then book handle-is.1
            (stands-then book entropy-is.2
            (stands-then book additional-is.2 (stands-none book past-additional)));
      }))))

  draw_only : (a : ℕ) → All (FieldsRead 3 a) (draw_at book a)
  unfolding draw_at
  draw_only a =
      after-number a (λ handle past-handle handle-is.
      after-number past-handle (λ strength past-strength strength-is.
      after_up_to past-strength 65536 (λ request past-request request-is.
      after_string past-request (λ additional past-additional additional-is.
      all_found _ _ _
      (record {
        kind_is = refl;
        fits = (handle-is.0, strength-is.0, request-is.0, additional-is.0);
        parts = additional-is.1;
        stands =
            stands-then book handle-is.1
            (stands-then book strength-is.1
            (stands-then book request-is.1
            (stands-then book additional-is.2 (stands-none book past-additional))));
      })))))

  fresh_draw_only : (a : ℕ) → All (FieldsRead 4 a) (fresh_draw_at book a)
  unfolding fresh_draw_at
  fresh_draw_only a =
      after-number a (λ handle past-handle handle-is.
      after-number past-handle (λ strength past-strength strength-is.
      after_up_to past-strength 65536 (λ request past-request request-is.
      after_string past-request (λ entropy past-entropy entropy-is.
      after_string past-entropy (λ additional past-additional additional-is.
      all_found _ _ _
      (record {
        kind_is = refl;
        fits = (handle-is.0, strength-is.0, request-is.0, entropy-is.0, additional-is.0);
        parts = (entropy-is.1, additional-is.1);
        stands =
            stands-then book handle-is.1
            (stands-then book strength-is.1
            (stands-then book request-is.1
            (stands-then book entropy-is.2
            (stands-then book additional-is.2 (stands-none book past-additional)))));
      }))))))

  close_only : (a : ℕ) → All (FieldsRead 5 a) (close_at book a)
  unfolding close_at
  close_only a =
      after-number a (λ handle past-handle handle-is.
      all_found _ _ _
      (record {
        kind_is = refl;
        fits = handle-is.0;
        parts = tt;
        stands =
            stands-then book handle-is.1 (stands-none book past-handle);
      }))

  inquire_only : (a : ℕ) → All (FieldsRead 6 a) (inquire_at book a)
  unfolding inquire_at
  inquire_only a =
      after-number a (λ handle past-handle handle-is.
      all_found _ _ _
      (record {
        kind_is = refl;
        fits = handle-is.0;
        parts = tt;
        stands =
            stands-then book handle-is.1 (stands-none book past-handle);
      }))

  -- the fields of this kind, or those of the kinds that follow
  if_kind : (kind i a : ℕ) (f g : Reader Record) → All (FieldsRead i a) (f book a) → All (FieldsRead kind a) (g book a)
      → All (FieldsRead kind a) (cond (eqb kind i) f g book a)
  if_kind kind i a f g this others = go (eqb kind i) refl
    where
      go : (t : Bool) → eqb kind i ≡ t → All (FieldsRead kind a) (cond t f g book a)
      go true is = subst (λ k. All (FieldsRead k a) (f book a)) (sym (eqb-true kind i is)) this
      go false is = others

  fields_only : (kind a : ℕ) → All (FieldsRead kind a) (fields_at kind book a)
  unfolding fields_at
  fields_only kind a =
      if_kind kind 1 a open_at _ (open_only a)
      (if_kind kind 2 a reseed_at _ (reseed_only a)
      (if_kind kind 3 a draw_at _ (draw_only a)
      (if_kind kind 4 a fresh_draw_at _ (fresh_draw_only a)
      (if_kind kind 5 a close_at _ (close_only a)
      (if_kind kind 6 a inquire_at refused (inquire_only a) (all_bad _))))))

  pub record_only : {a b : ℕ} {r : Record} → record_at book a ≡ found r b → ReadAs book a b r
  unfolding record_at
  record_only {a} e =
      (after-number {Q = λ r b. ReadAs book a b r} a {f = λ kind. fields_at kind book}
      (λ kind place kind_is.
      record {
        of = λ e.
            let read = (fields_only kind place).of e in
            record {
              fits = read.fits;
              parts = read.parts;
              stands =
                  stands-then book (subst (λ k. Stands book a place (number_bytes k)) (sym read.kind_is) kind_is.1) read.stands;
            };
      })
      ).of e

  pub record_within : {a b : ℕ} {r : Record} → record_at book a ≡ found r b → (a < b) × (b ≤ length book)
  record_within {a} {b} {r} e =
      let m = meaning_of book r in
      let stands = (record_only e).stands in
      let some : 0 < length (record_bytes m) =
      omega (arith, length-append (number_bytes (kind_of m)) (joined (field_bytes m)), length-number (kind_of m)) in
      (omega (arith, stands.ends), stands-inside book stands some)

-- a record of that meaning was read from a to b
pub record Said (book : List ℕ) (m : Meaning) (a b : ℕ) : Type 0 where
  pub fits : Fits m
  pub further : a < b
  pub inside : b ≤ length book

pub said : (book : List ℕ) → Bytes book → {m : Meaning} {a b : ℕ} → found m b ≡ read_map (meaning_of book) (record_at book a)
    → Said book m a b
said book bytes {m} {a} {b} e =
    let read = map-found (meaning_of book) (record_at book a) e in
    let within = record_within book bytes read.1 in
    record { fits = subst Fits read.2 (record_only book bytes read.1).fits; further = within.0; inside = within.1 }

-- between any two other texts
pub record_between : (before after : List ℕ) (m : Meaning) → Fits m
    → (r : Record) × (record_at (before ++ (record_bytes m ++ after)) (length before) ≡ found r (length before + length (record_bytes m)))
    × (meaning_of (before ++ (record_bytes m ++ after)) r ≡ m)
record_between before after m fits = record_written _ m fits (stands-between before (record_bytes m) after)
