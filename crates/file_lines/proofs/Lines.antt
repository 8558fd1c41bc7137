-- A piece of a line that is held, and the lines of a text that goes on. Assumes nothing.
use Prim.Native.Nat.{ℕ, suc, ◌+◌, ◌-◌, ◌≤◌, ◌<◌, min}
use mathlib.Core.Path.{◌≡◌, refl, sym, ap, ◌∙◌}
use mathlib.Core.Bool.{Bool, false}
use mathlib.Core.List.{List, [], ◌∷◌, ◌++◌, append-nil, append_assoc}
use native.Mathlib.Decide.{dec_lt}
use native.Mathlib.Omega.{arith}
use borrow.Author.Tests.{eqb-true, lt-ltb, le-ltb}
use borrow.Rule.Slice.PartMut.{put_mid}
use lib.Dec.{eqb}
use lib.ListN.{length, take, drop, get_or, length-append, length-take, take-append-drop, drop_of_length-le}
use lib.Seq.{drop-cons, take_all}
use native.Mathlib.Numerals.{add-one}
use Rattle.std.proofs.lemmas.List.{get_or-take, drop-drop}
use Rattle.std.specs.Prelude.{Option, Some, None, position, unwrap_or, is_some, MatchOption}
use Rattle.std.specs.List.{position_or_len}
use Rattle.std.proofs.lemmas.List.Sums.{passes_at_first, fails_before_first}
use Rattle.std.proofs.lemmas.Slice.{take-put_mid}
use Rattle.file_lines.specs.Lines.{ended, lines_from}
use Rattle.file_lines.specs.Held.{line_size, Holds, Onward}

-- what is held of a piece behind a line: as much as there is room for
pub holds_piece : (old piece new : List ℕ) (held k n : ℕ) (l : List ℕ) → length old ≡ line_size → held ≤ line_size
    → n ≡ min (length piece) (line_size - held) → new ≡ put_mid held k old (take n piece) → Holds old held l
    → Holds new (held + n) (l ++ piece)
holds_piece old piece new held k n l size few is put so =
    record { short = short; long = long }
  where
    taken : length (take n piece) ≡ n
    taken = omega (arith, length-take n piece, is)

    begun : held < line_size → length l ≡ held
    begun h =
        let same : length (take held old) ≡ length l = ap length (so.short h) in
        omega (arith, same, length-take held old, size, h)

    short : held + n < line_size → take (held + n) new ≡ l ++ piece
    short h =
        let whole : take n piece ≡ piece = take_all n piece (omega (arith, is, h)) in
        ap (take (held + n)) put ∙
        take-put_mid held k old (take n piece) (held + n) (omega (arith, taken)) (omega (arith, size, few)) ∙
        ap (λ x. take held old ++ x) whole ∙
        ap (λ x. x ++ piece) (so.short (omega (arith, h)))

    long : line_size ≤ held + n → line_size ≤ length (l ++ piece)
    long h = go (dec_lt held line_size)
      where
        go : Dec (held < line_size) → line_size ≤ length (l ++ piece)
        go (yes room) = omega (arith, begun room, is, h, length-append l piece)
        go (no full) = omega (arith, so.long (omega (arith, full)), length-append l piece)

-- characters that end no line
passed : (l p rest : List ℕ) → ((k : ℕ) → k < length p → eqb (get_or p k 0) 10 ≡ false)
    → lines_from l (p ++ rest) ≡ lines_from (l ++ p) rest
unfolding lines_from
passed l [] rest none = ap (λ m. lines_from m rest) (sym (append-nil l))
passed l (c ∷ p) rest none =
    rw (none 0 (omega arith))
    (passed (l ++ (c ∷ [])) p rest (λ k h. none (suc k) (omega arith)) ∙ ap (λ m. lines_from m rest) (append_assoc l (c ∷ []) p))

-- the character that ends one
ends : (l rest : List ℕ) → lines_from l (10 ∷ rest) ≡ ended l ∷ lines_from [] rest
unfolding lines_from
ends l rest = refl

abbrev is_end : ℕ → Bool
is_end c = eqb c 10

module _ (l s rest : List ℕ) where
  up_to : (n : ℕ) → n ≤ position_or_len is_end s → lines_from l (s ++ rest) ≡ lines_from (l ++ take n s) (drop n s ++ rest)
  up_to n h =
      ap (λ x. lines_from l (x ++ rest)) (sym (take-append-drop n s)) ∙
      ap (lines_from l) (append_assoc (take n s) (drop n s) rest) ∙
      passed l (take n s) (drop n s ++ rest)
      (λ k inside.
      let before : k < n = omega (arith, inside, length-take n s) in
      ap is_end (get_or-take n s k 0 before) ∙ fails_before_first is_end s k 0 (omega (arith, before, h)))

  found_end : (n : ℕ) → n ≡ position_or_len is_end s → n < length s
      → lines_from l (s ++ rest) ≡ ended (l ++ take n s) ∷ lines_from [] (drop (n + 1) s ++ rest)
  found_end n is h =
      let ten : get_or s n 0 ≡ 10 = eqb-true _ 10 (ap (λ k. is_end (get_or s k 0)) is ∙ passes_at_first is_end s 0 (omega (arith, is)))
      in
      let behind : drop n s ≡ 10 ∷ drop (n + 1) s = drop-cons s n 0 h ∙ rw (ten, add-one) refl in
      up_to n (omega (arith, is)) ∙ ap (λ x. lines_from (l ++ take n s) (x ++ rest)) behind ∙
      ends (l ++ take n s) (drop (n + 1) s ++ rest)

-- where the window goes on: behind the place that was found, if one was
pub went_on : (window : List ℕ) (from : ℕ) (l : List ℕ) (o r : Option ℕ) → o ≡ position is_end (drop from window)
    → MatchOption o (r ≡ None) (λ n. r ≡ Some (from + n + 1))
    → Onward window from l (unwrap_or r (length window)) (l ++ take (unwrap_or o (length (drop from window))) (drop from window))
    (is_some r)
went_on window from l o r is behind = go (dec_lt n (length s))
  where
    s : List ℕ
    s = drop from window

    n : ℕ
    n = position_or_len is_end s

    go : Dec (n < length s) → Onward window from l (unwrap_or r (length window)) (l ++ take (unwrap_or o (length s)) s) (is_some r)
    go (yes h) =
        let found : o ≡ Some n = is ∙ rw (lt-ltb n (length s) h) refl in
        let on : r ≡ Some (from + n + 1) = rw found at behind in
        rw (on, found)
        (λ rest.
        found_end l s rest n refl h ∙
        ap (λ x. ended (l ++ take n s) ∷ lines_from [] (x ++ rest)) (drop-drop (n + 1) from window ∙ ap (λ k. drop k window) (omega arith)))
    go (no h) =
        let past : length s ≤ n = omega (arith, h) in
        let none : o ≡ None = is ∙ rw (le-ltb n (length s) past) refl in
        let on : r ≡ None = rw none at behind in
        rw (on, none)
        (λ rest.
        up_to l s rest (length s) past ∙
        ap (λ x. lines_from (l ++ take (length s) s) (x ++ rest))
        (drop_of_length-le s (omega arith) ∙ sym (drop_of_length-le window (omega arith))))
