-- A hash that has read a padded message holds the words and the count of its hash.
use Rattle.std.proofs.Common.{sym, ap, ◌∙◌}
use Rattle.sha256.proofs.Feeding.{hash_of_read}
use Rattle.sha256.proofs.running.Running.digest.Goals as goal

pub returns : goal.returns
returns c = λ m has.
    let h = c.args.self in
    ap (λ b. record { value = b; blocks = h.blocks }) c.bytes_of.ensures ∙ sym (hash_of_read m h has)
