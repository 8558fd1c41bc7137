-- What the headings have said: whether a hash was named and is ours, prediction resistance, and the lengths of the fields in bits.
use Rattle.std.specs.Prelude.{ℕ, ◌*◌, Bool, true, false, ◌||◌, cond, eqb, Option, Some, None}
use Rattle.rsp_line.specs.Names.{entropy_input, nonce, personalization_string, additional_input, returned_bits}
use Rattle.rsp_line.specs.Names.{entropy_input_reseed, additional_input_reseed, entropy_input_pr, number_of}
use Rattle.rsp_line.specs.declared.line.Heading as Heading
use Rattle.rsp_case.specs.declared.heads.Heads.{Heads}

-- none so far
abbrev pub no_heads : Heads
no_heads =
    record {
      known = false;
      ours = false;
      fresh = false;
      entropy = None;
      nonce = None;
      personalization = None;
      additional = None;
      returned = None;
    }

-- a hash was named: what the other headings said before it is over
abbrev pub heads_under : (ours : Bool) → Heads
heads_under ours =
    record {
      known = true;
      ours = ours;
      fresh = false;
      entropy = None;
      nonce = None;
      personalization = None;
      additional = None;
      returned = None;
    }

abbrev pub with_fresh : Heads → (fresh : Bool) → Heads
with_fresh h fresh =
    record {
      known = h.known;
      ours = h.ours;
      fresh = fresh;
      entropy = h.entropy;
      nonce = h.nonce;
      personalization = h.personalization;
      additional = h.additional;
      returned = h.returned;
    }

abbrev pub with_length : Heads → (name n : ℕ) → Heads
with_length h name n =
    record {
      known = h.known;
      ours = h.ours;
      fresh = h.fresh;
      entropy = cond (eqb name entropy_input) (Some n) h.entropy;
      nonce = cond (eqb name nonce) (Some n) h.nonce;
      personalization = cond (eqb name personalization_string) (Some n) h.personalization;
      additional = cond (eqb name additional_input) (Some n) h.additional;
      returned = cond (eqb name returned_bits) (Some n) h.returned;
    }

-- one heading more
abbrev pub heads_told : Heads → Heading.Heading → Heads
heads_told h (Heading.TheVariants.Hash ours) = heads_under ours
heads_told h (Heading.TheVariants.Resists fresh) = with_fresh h fresh
heads_told h (Heading.TheVariants.Bits name n) = with_length h (number_of name) n

-- what a field's length must be: one heading speaks of all entropy, another of all additional input
abbrev pub length_for : Heads → (name : ℕ) → Option ℕ
length_for h name =
    cond ((eqb name entropy_input || eqb name entropy_input_reseed) || eqb name entropy_input_pr) h.entropy
    (cond (eqb name nonce) h.nonce
    (cond (eqb name personalization_string) h.personalization
    (cond (eqb name additional_input || eqb name additional_input_reseed) h.additional
    (cond (eqb name returned_bits) h.returned None))))

-- a value of n bytes has the length
abbrev pub fits : Option ℕ → (n : ℕ) → Bool
fits None n = true
fits (Some b) n = eqb (8 * n) b
