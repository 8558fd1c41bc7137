-- The seed from 01, the V that stands in the slot, and the caller's two strings. It is within the bound since the strings are short.
use Rattle.std.proofs.Common.{◌≡◌, List, [], ◌∷◌, ◌++◌, ℕ, ap, ◌∙◌, append-nil, arith}
use Rattle.standard.specs.State.{State}
use Rattle.standard.specs.HashDrbg.{reseed, seeded}
use Rattle.standard.specs.Functions.{Hash_DRBG}
use Rattle.standard.specs.Sha256.{sha256}
use Rattle.standard.specs.Lengths.{Sized}
use Rattle.standard.proofs.Bound.{bounded}
use Rattle.drbg_shared.specs.Generator.{state_of}
use Rattle.drbg_hash.specs.Seeds.{seed_for}
use Rattle.drbg_hash.proofs.Standing.{served_seed}
use Rattle.drbg_hash.proofs.generator.HashDrbgDrbg.reseeded.Goals as goal

pub returns : goal.returns
unfolding reseed state_of
returns c =
    let v : List ℕ = c.args.first.now in
    let entropy : List ℕ = c.args.entropy.now in
    let additional : List ℕ = c.args.additional.now in
    let seed = seed_for c.seed_from.result c.seed_from.new.v c.seed_from.new.c in
    let read : seed ≡ seeded sha256 (0x01 ∷ (v ++ (entropy ++ (additional ++ [])))) = c.seed_from.ensures in
    let seeds : seed ≡ seeded sha256 (0x01 ∷ (v ++ (entropy ++ additional))) =
    read ∙ ap (λ s. seeded sha256 (0x01 ∷ (v ++ (entropy ++ s)))) (append-nil additional) in
    let stands = served_seed (0x01 ∷ (v ++ (entropy ++ additional))) _ _ _ seeds in
    let held : State = record { first = v; second = c.args.second.now; counter = 1 } in
    let sized : Sized 55 held = record { first = omega arith; second = omega arith } in
    let bounds = c.requires in
    let few = (bounded Hash_DRBG).reseeding held entropy additional sized bounds.0 bounds.1 in
    record { is = λ counter. stands.0; few = rw (← seeds) at few; sized = stands.1 }
