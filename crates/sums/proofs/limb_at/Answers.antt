-- A limb is the number that its eight bytes are.
use Rattle.std.proofs.Common.{◌∙◌, take, drop, sym, ap, arith}
use Rattle.std.specs.Int.{from_be_bytes, w64}
use Rattle.std.proofs.lemmas.Nat.{be_bytes_8}
use Rattle.standard.specs.Strings.{Bytes}
use Rattle.standard.proofs.Strings.{bytes_take, bytes_drop}
use Rattle.compression.proofs.Bytes.{high_first}
use Rattle.compression.proofs.Stores.{length_part}
use Rattle.sums.proofs.limb_at.Goals as goal

pub returns : goal.returns
returns c =
    let s = c.args.s.now in
    let at = c.args.at in
    let bytes : Bytes s = record { at = λ i. omega (arith, c.type_inv.s i) } in
    sym (high_first 8 _) ∙
    be_bytes_8 (take 8 (drop at s)) _ (length_part s at 8 c.requires) (bytes_take 8 (bytes_drop at bytes)).at
    (c.from_be_bytes.ensures ∙ ap (from_be_bytes w64) c.part.ensures)
