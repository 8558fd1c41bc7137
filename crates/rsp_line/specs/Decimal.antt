-- A number: one decimal digit or more (0 to 9 are 48 to 57), below 2^64.
use Rattle.std.specs.Prelude.{ℕ, ◌+◌, ◌-◌, ◌*◌, ◌^◌, ◌&&◌, cond, List, [], ◌∷◌, ltb, Option, Some, None}
use Rattle.rsp_line.specs.Hex.{between}

-- behind digits that are v
unfoldable pub number_from : (v : ℕ) → List ℕ → Option ℕ
number_from v [] = Some v
number_from v (c ∷ s) = cond (between 48 c 57 && ltb (10 * v + (c - 48)) (2 ^ 64)) (number_from (10 * v + (c - 48)) s) None

unfoldable pub number_of : List ℕ → Option ℕ
number_of [] = None
number_of (c ∷ s) = number_from 0 (c ∷ s)
