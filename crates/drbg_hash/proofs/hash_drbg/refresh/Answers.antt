-- V stays without additional input, and grows by the hash of 02, V and the additional input with it. Assumes nothing.
use Rattle.std.proofs.Common.{◌≡◌, List, ◌∷◌, ◌++◌, length, ◌<◌, ℕ, sym, ap, ◌∙◌, add-zero, arith}
use Rattle.std.proofs.lemmas.Bool.{eqb-true, eqb-false}
use Rattle.standard.specs.Hash.{hash}
use Rattle.standard.specs.HashDrbg.{refreshed, stepped}
use Rattle.standard.specs.Sha256.{sha256}
use Rattle.standard.proofs.Strings.{if_null-nil, if_null-some}
use Rattle.sha256.specs.Values.{digest_of}
use Rattle.drbg_shared.specs.Costs.{costing}
use Rattle.std.proofs.lemmas.List.{nil_from_length}
use Rattle.sums.proofs.Carries.{sum_alone}
use Rattle.drbg_hash.proofs.hash_drbg.refresh.Goals as goal

pub returns-then-is_empty : goal.returns-then-is_empty
unfolding refreshed
returns-then-is_empty c =
    let none = eqb-true _ 0 (sym c.is_empty.ensures ∙ c.if-is_empty.true) in
    sym (rw (nil_from_length c.args.additional.now none, if_null-nil))

pub returns : goal.returns
unfolding refreshed stepped
returns c =
    let v : List ℕ = c.args.v.now in
    let additional : List ℕ = c.args.additional.now in
    let w = c.hash_joined-w.result in
    let none = eqb-false (length additional) 0 (sym c.is_empty.ensures ∙ c.if-is_empty.false) in
    let some : 0 < length additional = omega (arith, none) in
    let hashed : digest_of w ≡ hash sha256 (0x02 ∷ (v ++ additional)) =
    c.hash_joined-w.ensures ∙ ap (λ s. hash sha256 (0x02 ∷ (v ++ s))) c.one.ensures.is in
    let summed = c.total-grown.ensures ∙ sum_alone v w.bytes in
    sym (rw (if_null-some additional _ _ some, ← hashed, add-zero) (ap (λ s. costing w.blocks s) (sym summed)))
