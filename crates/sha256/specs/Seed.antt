-- Three strings as one: the seed material is entropy, then nonce, then personalization. A reader goes through it string by string.
use Rattle.std.specs.Prelude.{ℕ, ◌+◌, ◌-◌, ◌^◌, ◌≤◌, ◌<◌, ◌≡◌, cond, List, ◌++◌, ltb, length, take, drop}
use Rattle.sha256.specs.Fed.{Fed, Room}
use Rattle.sha256.specs.declared.strings.Strings.{Strings}
use Rattle.sha256.specs.declared.reader.Place.{Place}
use Rattle.sha256.specs.declared.reader.Reader.{Reader}

-- the one string, and how many bytes it has
abbrev pub material : Strings → List ℕ
material s = s.first.now ++ (s.second.now ++ s.third.now)

abbrev pub size : Strings → ℕ
size s = length s.first.now + length s.second.now + length s.third.now

-- no string is longer than a call takes
abbrev pub Short : Strings → Type 0
Short s = (length s.first.now ≤ 1024) × (length s.second.now ≤ 1024) × (length s.third.now ≤ 1024)

-- where the string ends that a place stands in, of strings of e, n and p bytes
abbrev pub string_end : (e n p at : ℕ) → ℕ
string_end e n p at = cond (ltb at e) e (cond (ltb at (e + n)) (e + n) (e + n + p))

abbrev pub end_of : Strings → (at : ℕ) → ℕ
end_of s at = string_end (length s.first.now) (length s.second.now) (length s.third.now) at

-- the place stands in a string of so many bytes, and its hash can read the rest of them
pub record Ready (bytes : ℕ) (place : Place) : Type 0 where
  pub few : bytes < 2 ^ 64
  pub inside : place.at ≤ bytes
  pub room : Room place.hash (bytes - place.at)

-- the second place is the end of the string that the first stands in, and its hash has read on to there
pub record ReadOn (s : Strings) (from to : Place) : Type 0 where
  pub moved : to.at ≡ end_of s from.at
  pub fed : Fed from.hash (take (to.at - from.at) (drop from.at (material s))) to.hash

-- the second reader has the strings of the first, and has read on
pub record Advanced (r q : Reader) : Type 0 where
  pub strings : q ≡ record { strings = r.strings; place = q.place }
  pub read : ReadOn r.strings r.place q.place
