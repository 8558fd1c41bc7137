-- By what the search finds.
use Rattle.std.proofs.Common.{◌≡◌, true, false, rules}
use Rattle.std.proofs.lemmas.Iterator.{first_from_Range}
use Rattle.slots.specs.Layout.{slot_at}
use Rattle.slots.specs.Handle.{in_use}
use Rattle.slots.specs.Bytes.{table_of}
use Rattle.slots.proofs.Handles.{lowest_by}
use Rattle.slots.proofs.handle.lowest_free.Goals as goal

pub returns-clause-lowest : goal.returns-clause-lowest
returns-clause-lowest c =
    let t = table_of c.args.table.now in
    lowest_by t c.args.from c.args.to _ c.requires.1
    (first_from_Range _ _ _ _ (λ i. in_use (slot_at t i) ≡ false) (λ i. in_use (slot_at t i) ≡ true) c.find.ensures.ran
    (λ x q k. search rules) (λ x q k. (search rules, search rules)))
