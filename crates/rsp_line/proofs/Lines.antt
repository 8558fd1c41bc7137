-- Where a name ends. Assumes nothing.
use Prim.Native.Nat.{ℕ, suc, ◌<◌, ◌≤◌}
use mathlib.Core.Path.{◌≡◌, refl, ap}
use mathlib.Core.Bool.{Bool, true, false, cond}
use mathlib.Core.List.{List, [], ◌∷◌}
use native.Mathlib.Omega.{arith}
use native.Mathlib.Decide.{dec_lt}
use borrow.Author.Tests.{lt-ltb, le-ltb}
use lib.Dec.{eqb, ltb}
use lib.ListN.{length}
use Rattle.std.specs.Prelude.{Option, Some, None, unwrap_or, position}
use Rattle.std.specs.List.{position_or_len}
use Rattle.std.proofs.lemmas.List.Recursion.{is_position_or_len}
use Rattle.rsp_line.specs.Lines.{name_end}

name_end-position : (s : List ℕ) → name_end s ≡ position_or_len (λ c. eqb c 61) s
unfolding name_end
name_end-position = is_position_or_len name_end (λ c. eqb c 61) refl (λ c s. ap (cond (eqb c 61) 0) (omega arith))

name_end_within : (s : List ℕ) → name_end s ≤ length s
unfolding name_end
name_end_within [] = omega arith
name_end_within (c ∷ s) = go (eqb c 61) (name_end_within s)
  where
    go : (b : Bool) → name_end s ≤ length s → cond b 0 (suc (name_end s)) ≤ suc (length s)
    go true h = omega arith
    go false h = omega (arith, h)

-- the place of the first sign, or the length where there is none
pub name_end_found : (s : List ℕ) (o : Option ℕ) → o ≡ position (λ c. eqb c 61) s → unwrap_or o (length s) ≡ name_end s
name_end_found s o is = rw (is, ← name_end-position s) (go (dec_lt (name_end s) (length s)))
  where
    go : Dec (name_end s < length s)
        → unwrap_or (cond (ltb (name_end s) (length s)) (Some (name_end s)) None) (length s) ≡ name_end s
    go (yes h) = rw (lt-ltb (name_end s) (length s) h) refl
    go (no h) = rw (le-ltb (name_end s) (length s) (omega (arith, h))) (omega (arith, h, name_end_within s))
