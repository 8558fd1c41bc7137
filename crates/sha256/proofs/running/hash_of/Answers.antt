-- Read, padded, and the words taken as bytes.
use Rattle.std.proofs.Common.{[]}
use Rattle.sha256.proofs.Feeding.{read-padded}
use Rattle.sha256.proofs.running.hash_of.Goals as goal

pub returns : goal.returns
returns c = c.digest.ensures _ (read-padded (c.update.ensures.after [] c.new.ensures) c.finish.ensures)
