-- Three readings from the beginning reach the end of all three strings.
use Rattle.std.proofs.Common.{◌≡◌, sym, refl, subst}
use Rattle.sha256.specs.Fed.{Fed}
use Rattle.sha256.specs.Seed.{Ready, material, size}
use Rattle.sha256.proofs.Reading.{ready-first, read_thrice}
use Rattle.sha256.proofs.reader.read_through.Goals as goal

pub returns : goal.returns
returns c =
    let a = c.args in
    let made = c.new.ensures in
    let ready = subst (λ r. Ready (size r.strings) r.place) (sym made) (ready-first a.strings.now a.h c.requires) in
    subst (λ r. Fed r.place.hash (material r.strings) c.read-end.result.place.hash) made
    (read_thrice (subst (λ r. r.place.at ≡ 0) (sym made) refl) ready c.read.ensures c.read-2.ensures c.read-end.ensures)
