-- 55 bytes are two turns of the derivation (`hash_df_two`). Assumes of the strings that they are short, so that the count fits.
use Rattle.std.proofs.Common.{◌≡◌, List, ◌++◌, length, ◌≤◌, ℕ, arith, length-append}
use Rattle.sha256.specs.Seed.{material}
use Rattle.drbg_hash.proofs.Derivations.{hash_df_two, blocks_are}
use Rattle.drbg_hash.proofs.hash_df.derive.Goals as goal

pub overflow_add-result : goal.overflow_add-result
overflow_add-result c =
    let a = c.args in
    let input : List ℕ = a.mark.now ++ (a.v.now ++ material a.strings.now) in
    let short : length input ≤ 3200 = simp length-append (omega arith) in
    record { fits = omega (arith, short, blocks_are _ c.counted_hash-one.ensures, blocks_are _ c.counted_hash-two.ensures) }

pub returns : goal.returns
returns c =
    let a = c.args in
    let input : List ℕ = a.mark.now ++ (a.v.now ++ material a.strings.now) in
    let long : length a.to.now ≡ 55 = omega arith in
    hash_df_two input a.to.now _ _ c.counted_hash-one.ensures c.counted_hash-two.ensures long c.copy.ensures c.copy-2.ensures
