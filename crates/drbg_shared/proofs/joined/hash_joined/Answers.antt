-- Each string is read behind those before it (`Fed`), so the last running hash has read the six as one. Assumes nothing.
use Rattle.std.proofs.Common.{[], append_assoc, ap, ◌∙◌}
use Rattle.standard.specs.Hash.{hash}
use Rattle.standard.specs.Sha256.{sha256}
use Rattle.sha256.proofs.Feeding.{read-padded}
use Rattle.drbg_shared.proofs.joined.hash_joined.Goals as goal

pub returns : goal.returns
returns c =
    let one = c.update-h.ensures.after [] c.new.ensures in
    let led = c.update-h-3.ensures.after _ (c.update-h-2.ensures.after _ one) in
    c.digest.ensures _ (read-padded (c.read_through-h.ensures.after _ led) c.finish.ensures) ∙ ap (hash sha256) (simp append_assoc)
