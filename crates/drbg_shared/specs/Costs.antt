-- A string with its cost in blocks.
use Rattle.std.specs.Prelude.{ℕ, List}
use Rattle.standard.specs.Metered.{Metered}

abbrev pub costing : ℕ → List ℕ → Metered (List ℕ)
costing blocks s = record { value = s; blocks = blocks }
