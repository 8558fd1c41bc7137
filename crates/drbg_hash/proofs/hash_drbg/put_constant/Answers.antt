-- The derivation from a byte 00 and V, with nothing behind them; a string of 56 bytes, so four blocks. Assumes nothing.
use Rattle.std.proofs.Common.{◌≡◌, List, ◌∷◌, ◌++◌, length, ℕ, ap, ◌∙◌, append-nil, arith}
use Rattle.standard.specs.HashDf.{hash_df}
use Rattle.standard.specs.Sha256.{sha256}
use Rattle.drbg_hash.specs.Seeds.{constant_of}
use Rattle.drbg_hash.proofs.Derivations.{constant_count}
use Rattle.drbg_hash.proofs.hash_drbg.put_constant.Goals as goal

pub returns-clause-is : goal.returns-clause-is
unfolding constant_of
returns-clause-is c =
    let v : List ℕ = c.args.v.now in
    c.derive.ensures ∙ ap (λ s. hash_df sha256 (0x00 ∷ (v ++ s)) 55) c.one.ensures.is ∙
    ap (λ s. hash_df sha256 (0x00 ∷ s) 55) (append-nil v)

pub returns-clause-count : goal.returns-clause-count
returns-clause-count c =
    let v : List ℕ = c.args.v.now in
    let long : length v ≡ 55 = omega arith in
    ap (λ m. m.blocks) (returns-clause-is c) ∙ constant_count v long
