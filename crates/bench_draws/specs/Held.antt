-- What the bench's two functions hand back, by the standard's opening and draw: a generator's two fields, the blocks and the output.
-- Where a length is not one that the bench uses, nothing is done and the count is 0.
use Rattle.std.specs.Prelude.{ℕ, Bool, ◌&&◌, cond, List, [], eqb, leb, length}
use Rattle.standard.specs.Functions.{opening, draw}
use Rattle.standard.specs.Sha256.{sha256}
use Rattle.drbg_shared.specs.Generator.{Served, state_of, served, filled}
use Rattle.drbg.specs.Mechanism.{mechanism_of}

pub record Held : Type 0 where
  pub first : List ℕ
  pub second : List ℕ
  pub blocks : ℕ
  pub output : List ℕ

abbrev pub held_in : Served → List ℕ → Held
held_in s output = record { first = s.generator.first; second = s.generator.second; blocks = s.blocks; output = output }

-- two whole fields, and two numbers that are at most their limits
abbrev pub in_limits : (first second a most b limit : ℕ) → Bool
in_limits first second a most b limit = (eqb first 55 && eqb second 55) && (leb a most && leb b limit)

unfoldable pub opened_in : (mechanism : ℕ) (entropy nonce first second : List ℕ) → Held
opened_in mechanism entropy nonce first second =
    cond (in_limits (length first) (length second) (length entropy) 1024 (length nonce) 64)
    (held_in (served (opening sha256 (mechanism_of mechanism) entropy nonce [])) [])
    (record { first = first; second = second; blocks = 0; output = [] })

unfoldable pub drawn_in : (mechanism : ℕ) (first second : List ℕ) (counter : ℕ) (additional out : List ℕ) → Held
drawn_in mechanism first second counter additional out =
    let m = mechanism_of mechanism in
    let state = state_of m (record { first = first; second = second; counter = counter }) in
    let drawn = filled (draw sha256 m state (length out) additional) in
    cond (in_limits (length first) (length second) (length out) 65536 (length additional) 1024)
    (held_in drawn.served drawn.output)
    (record { first = first; second = second; blocks = 0; output = out })
