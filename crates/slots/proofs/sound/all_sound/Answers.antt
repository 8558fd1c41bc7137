-- One slot more at each step.
use Rattle.std.proofs.Common.{◌&&◌, true, rules, tests, refl}
use Rattle.std.proofs.lemmas.Iterator.{YieldsList-from_range}
use Rattle.std.proofs.lemmas.Iterator.Consumers.{fold_from_yields_List}
use Rattle.slots.specs.Layout.{slot_at, last_serial}
use Rattle.slots.specs.Sound.{sound_slot, sound, sound_slots}
use Rattle.slots.specs.Bytes.{table_of}
use Rattle.slots.proofs.sound.all_sound.Goals as goal

pub returns : goal.returns
unfolding sound sound_slots
returns c =
    let t = table_of c.args.table.now in
    fold_from_yields_List _ (λ all i. all && sound_slot (last_serial t) (slot_at t i)) true _ c.fold.ensures.ran
    (YieldsList-from_range 0 16 16 refl refl) (λ all i b q k. search (rules, tests))
