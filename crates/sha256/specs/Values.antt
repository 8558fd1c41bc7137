-- The digest of the code as that of the standard's definitions.
use Rattle.std.specs.Prelude.{ℕ, List}
use Rattle.standard.specs.Metered.{Metered}
use Rattle.sha256.specs.declared.running.Digest.{Digest}

abbrev pub digest_of : Digest → Metered (List ℕ)
digest_of d = record { value = d.bytes; blocks = d.blocks }
