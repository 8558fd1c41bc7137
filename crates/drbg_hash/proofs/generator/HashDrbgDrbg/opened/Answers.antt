-- The seed from the caller's three strings; V and C fill their fields. Assumes nothing.
use Rattle.standard.specs.HashDrbg.{instantiate}
use Rattle.drbg_hash.proofs.Standing.{served_seed}
use Rattle.drbg_hash.proofs.generator.HashDrbgDrbg.opened.Goals as goal

pub returns-clause-is : goal.returns-clause-is
unfolding instantiate
returns-clause-is c = (served_seed _ _ _ _ c.seed_from.ensures).0
