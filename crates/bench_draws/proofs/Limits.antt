-- What the test of the limits tells, and what is handed back in and out of them. Assumes nothing.
use Prim.Native.Nat.{ℕ, ◌≤◌}
use mathlib.Core.Path.{◌≡◌, refl}
use mathlib.Core.Bool.{Bool, true, false, false≢true, ◌&&◌}
use mathlib.Core.List.{List, []}
use lib.Dec.{eqb, leb}
use lib.ListN.{length}
use borrow.Author.Tests.{eqb-true, leb-true}
use Rattle.standard.specs.Functions.{opening, draw}
use Rattle.standard.specs.Sha256.{sha256}
use Rattle.drbg_shared.specs.Generator.{Filled, state_of, served, filled}
use Rattle.drbg.specs.Mechanism.{mechanism_of}
use Rattle.bench_draws.specs.Held.{held_in, in_limits, opened_in, drawn_in}

both : (a b : Bool) → (a && b) ≡ true → (a ≡ true) × (b ≡ true)
both true b h = (refl, h)
both false b h = absurd (false≢true h)

pub limits_are : (first second a most b limit : ℕ) → in_limits first second a most b limit ≡ true
    → (first ≡ 55) × (second ≡ 55) × (a ≤ most) × (b ≤ limit)
limits_are first second a most b limit h =
    let t = both (eqb first 55 && eqb second 55) (leb a most && leb b limit) h in
    let fields = both (eqb first 55) (eqb second 55) t.0 in
    let numbers = both (leb a most) (leb b limit) t.1 in
    (eqb-true first 55 fields.0, eqb-true second 55 fields.1, leb-true a most numbers.0, leb-true b limit numbers.1)

module _ (mechanism : ℕ) (entropy nonce first second : List ℕ) where
  pub opened-not : in_limits (length first) (length second) (length entropy) 1024 (length nonce) 64 ≡ false
      → opened_in mechanism entropy nonce first second ≡ record { first = first; second = second; blocks = 0; output = [] }
  unfolding opened_in
  opened-not test = rw test

  pub opened_so : in_limits (length first) (length second) (length entropy) 1024 (length nonce) 64 ≡ true
      → opened_in mechanism entropy nonce first second ≡ held_in (served (opening sha256 (mechanism_of mechanism) entropy nonce [])) []
  unfolding opened_in
  opened_so test = rw test

module _ (mechanism : ℕ) (first second : List ℕ) (counter : ℕ) (additional out : List ℕ) where
  pub drawn-not : in_limits (length first) (length second) (length out) 65536 (length additional) 1024 ≡ false
      → drawn_in mechanism first second counter additional out ≡ record { first = first; second = second; blocks = 0; output = out }
  unfolding drawn_in
  drawn-not test = rw test

  pub drawn_so : in_limits (length first) (length second) (length out) 65536 (length additional) 1024 ≡ true → (drawn : Filled)
      → drawn
      ≡ filled
      (draw sha256 (mechanism_of mechanism) (state_of (mechanism_of mechanism) (record {
        first = first;
        second = second;
        counter =
            counter;
      }))
      (length out) additional)
      → drawn_in mechanism first second counter additional out ≡ held_in drawn.served drawn.output
  unfolding drawn_in
  drawn_so test drawn is = rw (test, is)
