-- The hash behind the inner pad, then the hash of that behind the outer one (`hmac-is`).
use Rattle.drbg_hmac.proofs.Pads.{hmac-is}
use Rattle.drbg_hmac.proofs.hmac.hmac_of.Goals as goal

pub returns : goal.returns
returns c = hmac-is _ _ _ _ 2 c.hash_behind-inner.ensures c.hash_behind.ensures
