-- A value with the number of hash blocks that were consumed for it. `Hash.absorb`, the compression of one block, is the one
-- step that costs 1; `return` costs nothing and `>>=`, which `do` stands for, adds up. So a count is right by construction.
use Rattle.std.specs.Prelude.{ℕ, ◌+◌}

pub record Metered (A : Type 0) : Type 0 where
  pub value : A
  pub blocks : ℕ

abbrev pub return : {A : Type 0} → A → Metered A
return a = record { value = a; blocks = 0 }

infixl 10 ◌>>=◌
abbrev pub ◌>>=◌ : {A B : Type 0} → Metered A → (A → Metered B) → Metered B
m >>= f =
    record {
      value = (f m.value).value;
      blocks = m.blocks + (f m.value).blocks;
    }
