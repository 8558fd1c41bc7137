-- V is derived from the seed material and C from V. Assumes of the strings that they are short, so that the count fits.
use Rattle.std.proofs.Common.{List, ◌++◌, length, ◌≤◌, ℕ, sym, add-zero, arith, length-append}
use Rattle.standard.specs.HashDrbg.{seeded}
use Rattle.sha256.specs.Seed.{material}
use Rattle.drbg_hash.specs.Seeds.{constant_of}
use Rattle.drbg_hash.proofs.Derivations.{hash_df-count}
use Rattle.drbg_hash.proofs.hash_drbg.seed_from.Goals as goal

pub overflow_add-result : goal.overflow_add-result
overflow_add-result c =
    let a = c.args in
    let material : List ℕ = a.mark.now ++ (a.old.now ++ material a.strings.now) in
    let short : length material ≤ 3200 = simp length-append (omega arith) in
    record { fits = omega (arith, short, hash_df-count material c.derive-value.ensures, c.put_constant-constant.ensures.count) }

pub returns : goal.returns
unfolding seeded constant_of
returns c = sym (rw (← c.derive-value.ensures, ← c.put_constant-constant.ensures.is, add-zero))
