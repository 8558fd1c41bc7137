-- How far the reading of a case has come, and what a line does to it.
use Rattle.std.specs.Prelude.{ℕ, ◌+◌, Bool, ◌&&◌, ◌||◌, not, cond, eqb, leb}
use Rattle.rsp_line.specs.Names.{entropy_input, nonce, personalization_string, additional_input, returned_bits}
use Rattle.rsp_line.specs.Names.{entropy_input_reseed, additional_input_reseed, entropy_input_pr, count}
use Rattle.rsp_case.specs.Heads.{length_for, fits}
use Rattle.rsp_case.specs.declared.heads.Heads.{Heads}
use Rattle.rsp_case.specs.declared.point.Point.{Point}

-- it goes on, with the line's field kept or not; the case is whole, the line's field being what was returned; the case is passed over;
-- or the line can't be read
pub data Next : Type 0 where
  Goes Keeps Whole PassedOver : Point → Next
  Unread : Next

-- the published order: the opening's strings; then draws, each an AdditionalInput or one with EntropyInputPR behind it, and reseeds,
-- each of two fields; behind a draw what it returned
abbrev pub drawn : (last : ℕ) → Bool
drawn last = eqb last additional_input || eqb last entropy_input_pr

abbrev pub stepped : (last : ℕ) → Bool
stepped last = (eqb last personalization_string || drawn last) || eqb last additional_input_reseed

unfoldable pub follows : (last name : ℕ) → Bool
follows last name =
    ((((((eqb name entropy_input && eqb last count)
    || (eqb name nonce && eqb last entropy_input))
    || (eqb name personalization_string && eqb last nonce))
    || ((eqb name additional_input || eqb name entropy_input_reseed) && stepped last))
    || (eqb name additional_input_reseed && eqb last entropy_input_reseed))
    || (eqb name entropy_input_pr && eqb last additional_input))
    || (eqb name returned_bits && drawn last)

-- behind a line; 0 between cases
abbrev pub behind : Point → (last : ℕ) → Point
behind p last = record { heads = p.heads; last = last; number = p.number }

-- a heading stands between cases
unfoldable pub headed : Point → Heads → Next
headed p heads = cond (eqb p.last 0) (Goes (record { heads = heads; last = 0; number = p.number })) Unread

-- COUNT begins a case, between cases and under a hash
unfoldable pub counted : Point → (number : ℕ) → Next
counted p number =
    cond (eqb p.last 0 && p.heads.known) (Goes (record { heads = p.heads; last = count; number = number })) Unread

-- under another hash a case's fields are passed, in whichever order, up to what was returned
unfoldable pub passed : Point → (name : ℕ) → Next
passed p name = cond (eqb name returned_bits) (PassedOver (behind p 0)) (Goes p)

unfoldable pub taken : Point → (name : ℕ) → Next
taken p name = cond (eqb name returned_bits) (Whole (behind p 0)) (Keeps (behind p name))

-- a field of n bytes, where so many are held of the case so far: under our hash in its order, as long as its heading says, and three
-- bytes more for each field than it has, 65,536 at most in a case
unfoldable pub given : Point → (held name n : ℕ) → Next
given p held name n =
    cond (eqb p.last 0) Unread
    (cond (not p.heads.ours) (passed p name)
    (cond ((follows p.last name && fits (length_for p.heads name) n) && leb (held + 3 + n) 65536) (taken p name) Unread))
