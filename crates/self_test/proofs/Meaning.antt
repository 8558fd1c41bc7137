-- What the answer says: 0 exactly where every case comes out as it must. A test that is true is its statement. Assumes nothing.
use Prim.Native.Nat.{ℕ, suc}
use mathlib.Core.Path.{◌≡◌, refl, ap, ◌∙◌}
use mathlib.Core.Bool.{Bool, true, false, cond}
use mathlib.Core.List.{List, [], ◌∷◌}
use native.Mathlib.Omega.{arith}
use borrow.Author.Tests.{eqb-true, eq-eqb}
use lib.ListN.{replicate}
use Rattle.slots.specs.Sizes.{table_size}
use Rattle.slots.proofs.Flags.{both, and_both}
use Rattle.table.specs.Calls.{lent}
use Rattle.table.specs.OnBytes.{in_bytes}
use Rattle.same.specs.Same.{same}
use Rattle.self_test.specs.Cases.{Case, ◌then◌gives◌, ◌then◌refuses◌, after, holds, Holds, AllHold, first_from}
use Rattle.self_test.specs.SelfTest.{cases, first_differing}
use Rattle.same.proofs.Sameness.{same-is, same_equal}

holds_so : (c : Case) → holds c ≡ true → Holds c
unfolding holds
holds_so (before then last gives bytes) h =
    let d = in_bytes last (after (replicate table_size 0) before) in
    let parts = both _ (same d.output bytes) h in
    (eqb-true d.told.number 0 parts.0, same-is d.output bytes parts.1)
holds_so (before then last refuses number) h =
    let s = after (replicate table_size 0) before in
    let d = in_bytes last s in
    let parts = both _ (same d.output (lent last)) h in
    let front = both _ (same d.table s) parts.0 in
    (eqb-true d.told.number number front.0, same-is d.table s front.1, same-is d.output (lent last) parts.1)

so_holds : (c : Case) → Holds c → holds c ≡ true
unfolding holds
so_holds (before then last gives bytes) h = and_both (eq-eqb _ _ h.0) (same_equal h.1)
so_holds (before then last refuses number) h =
    and_both (and_both (eq-eqb _ _ h.0) (same_equal h.1)) (same_equal h.2)

all_so : (n : ℕ) (cs : List Case) → first_from (suc n) cs ≡ 0 → AllHold cs
unfolding first_from
all_so n [] h = tt
all_so n (c ∷ cs) h = go (all_so (suc n) cs) (holds c) refl h
  where
    go : (first_from (suc (suc n)) cs ≡ 0 → AllHold cs) → (is : Bool) → holds c ≡ is
        → cond is (first_from (suc (suc n)) cs) (suc n) ≡ 0
        → AllHold (c ∷ cs)
    go rest true is h = (holds_so c is, rest h)
    go rest false is h = absurd (omega (arith, h))

so_all : (n : ℕ) (cs : List Case) → AllHold cs → first_from n cs ≡ 0
unfolding first_from
so_all n [] h = refl
so_all n (c ∷ cs) h = ap (λ b. cond b (first_from (suc n) cs) n) (so_holds c h.0) ∙ so_all (suc n) cs h.1

pub zero_so : first_differing ≡ 0 → AllHold cases
unfolding first_differing
zero_so h = all_so 0 cases h

pub so_zero : AllHold cases → first_differing ≡ 0
unfolding first_differing
so_zero h = so_all 1 cases h
