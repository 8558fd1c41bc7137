-- The seed material read string by string. A reading goes to the end of a string, so no more than three are needed; and what was read up to
-- one place, with what stands between it and the next, is what was read up to the next. Assumes nothing.
use mathlib.Core.Path.{◌≡◌, sym, ap, ap₂, subst, ◌∙◌}
use mathlib.Core.List.{List, ◌++◌}
use Prim.Native.Nat.{ℕ, ◌+◌, ◌-◌, ◌≤◌, ◌<◌}
use native.Mathlib.Nat.{le_of_eq}
use native.Mathlib.Decide.{dec_lt}
use native.Mathlib.Omega.{arith}
use lib.ListN.{length, take, drop, length-append, length-take, length-drop}
use lib.Seq.{take-add, take_all, take-append-le, drop-append-le, drop-append-add}
use borrow.Author.Tests.{lt-ltb, le-ltb}
use Rattle.sha256.specs.Fed.{Fed, Room}
use Rattle.sha256.specs.Seed.{string_end, end_of, Ready, ReadOn, material, size, Advanced}
use Rattle.sha256.specs.declared.running.Running.{Running}
use Rattle.sha256.specs.declared.strings.Strings.{Strings}
use Rattle.sha256.specs.declared.reader.Place.{Place}
use Rattle.sha256.specs.declared.reader.Reader.{Reader}
use Rattle.sha256.proofs.Feeding.{fed_then, fed-none}

-- ---- where a string ends
module _ (e n p at : ℕ) where
  end_of_first : at < e → string_end e n p at ≡ e
  end_of_first here = rw (lt-ltb at e here)

  end_of_second : e ≤ at → at < e + n → string_end e n p at ≡ e + n
  end_of_second behind here = rw (le-ltb at e behind, lt-ltb at (e + n) here)

  end_of_third : e + n ≤ at → string_end e n p at ≡ e + n + p
  end_of_third behind = rw (le-ltb at e (omega (arith, behind)), le-ltb at (e + n) behind)

  -- what holds of the end of each string, where the place stands in it, holds of the end of the string that the place stands in
  by_string : (P : ℕ → Type 0) → (at < e → P e) → (e ≤ at → at < e + n → P (e + n)) → (e + n ≤ at → P (e + n + p)) → P (string_end e n p at)
  by_string P first second third = go (dec_lt at e) (dec_lt at (e + n))
    where
      go : Dec (at < e) → Dec (at < e + n) → P (string_end e n p at)
      go (yes here) _ = subst P (sym (end_of_first here)) (first here)
      go (no far) (yes here) =
          let behind : e ≤ at = omega (arith, far) in
          subst P (sym (end_of_second behind here)) (second behind here)
      go (no _) (no far) =
          let behind : e + n ≤ at = omega (arith, far) in
          subst P (sym (end_of_third behind)) (third behind)

  end-inside : string_end e n p at ≤ e + n + p
  end-inside = by_string (λ k. k ≤ e + n + p) (λ _. omega arith) (λ _ _. omega arith) (λ _. omega arith)

  end_ahead : at ≤ e + n + p → at ≤ string_end e n p at
  end_ahead inside = by_string (λ k. at ≤ k) (λ here. omega arith) (λ _ here. omega arith) (λ _. omega (arith, inside))

  -- the end of the first string is reached by one reading at the latest, that of the second by two, and the end of all by three
  first_reached : e ≤ string_end e n p at
  first_reached = by_string (λ k. e ≤ k) (λ _. omega arith) (λ _ _. omega arith) (λ _. omega arith)

  second_reached : e ≤ at → e + n ≤ string_end e n p at
  second_reached behind = by_string (λ k. e + n ≤ k) (λ here. omega (arith, behind, here)) (λ _ _. omega arith) (λ _. omega arith)

-- ---- what stands there
-- a place in the first of two strings joined: the rest of that string
rest-here : (at : ℕ) (s t : List ℕ) → at ≤ length s → take (length s - at) (drop at (s ++ t)) ≡ take (length s - at) (drop at s)
rest-here at s t inside =
    ap (take (length s - at)) (drop-append-le at s t inside) ∙
    take-append-le (length s - at) (drop at s) t (le_of_eq (sym (length-drop at s)))

-- a place behind it: a place in the second
drop-behind : (at : ℕ) (s t : List ℕ) → length s ≤ at → drop at (s ++ t) ≡ drop (at - length s) t
drop-behind at s t behind =
    let sum : at ≡ length s + (at - length s) = omega (arith, behind) in
    ap (λ k. drop k (s ++ t)) sum ∙ drop-append-add s t (at - length s)

module _ (s : Strings) where
  abbrev e : List ℕ
  e = s.first.now

  abbrev n : List ℕ
  n = s.second.now

  abbrev p : List ℕ
  p = s.third.now

  abbrev end : ℕ → ℕ
  end at = end_of s at

  pub ahead : (at : ℕ) → at ≤ size s → at ≤ end at
  ahead at = end_ahead (length e) (length n) (length p) at

  pub inside : (at : ℕ) → end at ≤ size s
  inside at = end-inside (length e) (length n) (length p) at

  -- the rest of the string that a place stands in, for each of the three
  pub rest-first : (at : ℕ) → at < length e → take (length e - at) (drop at e) ≡ take (end at - at) (drop at (material s))
  rest-first at here =
      let is = end_of_first (length e) (length n) (length p) at here in
      sym (ap (λ k. take (k - at) (drop at (material s))) is ∙ rest-here at e (n ++ p) (omega (arith, here)))

  pub rest-second : (at : ℕ) → length e ≤ at → at < length e + length n
      → take (length n - (at - length e)) (drop (at - length e) n) ≡ take (end at - at) (drop at (material s))
  rest-second at behind here =
      let is = end_of_second (length e) (length n) (length p) at behind here in
      let left : end at - at ≡ length n - (at - length e) = omega (arith, is, behind) in
      sym (ap₂ take left (drop-behind at e (n ++ p) behind) ∙ rest-here (at - length e) n p (omega (arith, behind, here)))

  pub rest-third : (at : ℕ) → length e + length n ≤ at
      → take (length p - (at - length e - length n)) (drop (at - length e - length n) p) ≡ take (end at - at) (drop at (material s))
  rest-third at behind =
      let is = end_of_third (length e) (length n) (length p) at behind in
      let left : end at - at ≡ length p - (at - length e - length n) = omega (arith, is, behind) in
      let first : length e ≤ at = omega (arith, behind) in
      let second : length n ≤ at - length e = omega (arith, behind) in
      sym (ap₂ take left (drop-behind at e (n ++ p) first ∙ drop-behind (at - length e) n p second))

  -- what a reading reads is as long as the place moves
  pub length_rest : (at : ℕ) {t : List ℕ} → t ≡ take (end at - at) (drop at (material s)) → length t ≡ end at - at
  length_rest at is =
      ap length is ∙
      length-take (end at - at) (drop at (material s)) ∙
      omega (arith, inside at, length-drop at (material s), length-append e (n ++ p), length-append n p)

  -- and it is what stands between the two places
  pub rest-between : (at : ℕ) {t : List ℕ} → t ≡ take (end at - at) (drop at (material s))
      → t ≡ take (at + length t - at) (drop at (material s))
  rest-between at {t} is =
      let moves : end at - at ≡ at + length t - at = omega (arith, length_rest at is) in
      is ∙ ap (λ k. take k (drop at (material s))) moves

  module _ {a b : Place} (on : ReadOn s a b) where
    -- h has read up to one place: so it has up to the next
    read-on : {h : Running} → a.at ≤ size s → Fed h (take a.at (material s)) a.hash
        → Fed h (take b.at (material s)) b.hash
    read-on {h} here fed =
        let far : a.at + (b.at - a.at) ≡ b.at = omega (arith, on.moved, ahead a.at here) in
        subst (λ x. Fed h x b.hash) (sym (take-add a.at (b.at - a.at) (material s)) ∙ ap (λ k. take k (material s)) far)
        (fed_then fed on.fed)

    still_ready : Ready (size s) a → Ready (size s) b
    still_ready ready =
        let read = length_rest a.at (ap (λ k. take (k - a.at) (drop a.at (material s))) on.moved) in
        let near = inside a.at in
        let far = ahead a.at ready.inside in
        record {
          few = ready.few;
          inside = omega (arith, on.moved, near);
          room = record { few = on.fed.few; room = omega (arith, on.fed.grown, on.moved, read, ready.room.room, near, far) };
        }

  -- three readings from the beginning
  read_three : {a b c d : Place} → a.at ≡ 0 → Ready (size s) a
      → ReadOn s a b → ReadOn s b c → ReadOn s c d → Fed a.hash (material s) d.hash
  read_three {a} {b} {c} {d} start ready one two three =
      let all = size s in
      let here = still_ready one ready in
      let there = still_ready two here in
      let nothing : Fed a.hash (take a.at (material s)) a.hash =
      subst (λ k. Fed a.hash (take k (material s)) a.hash) (sym start) (fed-none a.hash ready.room.few) in
      let first : length e ≤ b.at = omega (arith, one.moved, first_reached (length e) (length n) (length p) a.at) in
      let second : length e + length n ≤ c.at =
      omega (arith, two.moved, second_reached (length e) (length n) (length p) b.at first) in
      let last : d.at ≡ all = three.moved ∙ end_of_third (length e) (length n) (length p) c.at second in
      let whole : length (material s) ≤ d.at = omega (arith, last, length-append e (n ++ p), length-append n p) in
      subst (λ x. Fed a.hash x d.hash) (take_all d.at (material s) whole)
      (read-on three there.inside (read-on two here.inside (read-on one ready.inside nothing)))

-- ---- readers
-- a hash with room for all of the one string is ready to read it from its beginning
pub ready-first : (s : Strings) (h : Running) → Room h (size s) → Ready (size s) (record { at = 0; hash = h })
ready-first s h room =
    record { few = omega (arith, room.room); inside = omega arith; room = record { few = room.few; room = omega (arith, room.room) } }

pub ready-then : {r q : Reader} → Advanced r q → Ready (size r.strings) r.place → Ready (size q.strings) q.place
ready-then {r} {q} on ready = subst (λ x. Ready (size x.strings) q.place) (sym on.strings) (still_ready r.strings on.read ready)

pub read_thrice : {r₀ r₁ r₂ r₃ : Reader} → r₀.place.at ≡ 0 → Ready (size r₀.strings) r₀.place
    → Advanced r₀ r₁ → Advanced r₁ r₂ → Advanced r₂ r₃ → Fed r₀.place.hash (material r₀.strings) r₃.place.hash
read_thrice {r₀} {r₁} {r₂} {r₃} start ready one two three =
    let once : r₁.strings ≡ r₀.strings = ap (λ (r : Reader). r.strings) one.strings in
    let twice : r₂.strings ≡ r₀.strings = ap (λ (r : Reader). r.strings) two.strings ∙ once in
    read_three r₀.strings start ready one.read
    (subst (λ s. ReadOn s r₁.place r₂.place) once two.read) (subst (λ s. ReadOn s r₂.place r₃.place) twice three.read)
