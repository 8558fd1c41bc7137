-- Which mechanism a slot's number is.
use Rattle.std.specs.Prelude.{ℕ, cond, eqb}
use Rattle.standard.specs.Functions as Standard
use Rattle.drbg.specs.declared.mechanism.Mechanism.{Mechanism}
use Rattle.drbg.specs.declared.mechanism.Mechanism.TheVariants.{Hmac, Hash}

-- document 01: 1 is HMAC_DRBG and 2 is Hash_DRBG (here any number but 1: callers have refused the others)
abbrev pub mechanism_of : ℕ → Standard.Mechanism
mechanism_of n = cond (eqb n 1) Standard.HMAC_DRBG Standard.Hash_DRBG

-- the code's as the standard's
abbrev pub standard_of : Mechanism → Standard.Mechanism
standard_of Hmac = Standard.HMAC_DRBG
standard_of Hash = Standard.Hash_DRBG
