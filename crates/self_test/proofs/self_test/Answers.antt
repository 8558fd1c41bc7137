-- The code's strings are the definition's: computed. What is answered is the number of the first case that does not hold.
use Rattle.std.proofs.Common.{◌≡◌, Bool, ℕ, Option, List, [], ◌∷◌, map, not, sym, ap, ◌∙◌, rules, tests}
use Rattle.std.proofs.lemmas.Iterator.{YieldsList-from_slice}
use Rattle.std.proofs.lemmas.Iterator.Search.{position_from_yields_List}
use Rattle.standard.specs.Strings.{bytes_of}
use Rattle.self_test.specs.Cases.{Case, holds}
use Rattle.self_test.specs.Published.{hmac_reseeded, hash_reseeded, hmac_fresh, hash_fresh}
use Rattle.self_test.specs.SelfTest.{cases, first_differing}
use Rattle.self_test.proofs.Holding.{place, number_at, number_is}
use Rattle.self_test.proofs.self_test.Goals as goal

five : {a b c d e : Bool} (v w x y z : Case) → a ≡ holds v → b ≡ holds w → c ≡ holds x → d ≡ holds y → e ≡ holds z
    → a ∷ b ∷ c ∷ d ∷ e ∷ [] ≡ map holds (v ∷ w ∷ x ∷ y ∷ z ∷ [])
five v w x y z h i j k l = cc

answered : {held : List Bool} (r : Option ℕ) → r ≡ place held → held ≡ map holds cases → number_at 1 r ≡ first_differing
unfolding first_differing
answered r found held = ap (number_at 1) (found ∙ ap place held) ∙ number_is 1 cases

pub returns-in-Some : goal.returns-in-Some
unfolding bytes_of hmac_reseeded hash_reseeded hmac_fresh hash_fresh
returns-in-Some c =
    answered _
    (sym c.in-Some.is ∙
    position_from_yields_List not _ _ c.position.result c.position.ensures.ran (YieldsList-from_slice _ c.iter.ensures.rest)
    (λ x b q k. search (rules, tests)))
    (five _ _ _ _ _ c.holds.ensures c.holds-2.ensures c.holds-3.ensures c.holds-4.ensures c.refused.ensures)

pub returns-in-None : goal.returns-in-None
unfolding bytes_of hmac_reseeded hash_reseeded hmac_fresh hash_fresh
returns-in-None c =
    answered _
    (sym c.in-None.is ∙
    position_from_yields_List not _ _ c.position.result c.position.ensures.ran (YieldsList-from_slice _ c.iter.ensures.rest)
    (λ x b q k. search (rules, tests)))
    (five _ _ _ _ _ c.holds.ensures c.holds-2.ensures c.holds-3.ensures c.holds-4.ensures c.refused.ensures)
