-- Two metered values are one where value and cost are. Assumes nothing.
use mathlib.Core.Path.{◌≡◌}
use Rattle.standard.specs.Metered.{Metered}

pub same_metered : {A : Type 0} {m n : Metered A} → m.value ≡ n.value → m.blocks ≡ n.blocks → m ≡ n
same_metered p q = λ i. record { value = p i; blocks = q i }
