-- A byte, two bytes, and the value's behind them.
use Rattle.std.proofs.Common.{◌≡◌, [], ◌∷◌, ◌/◌, ◌%◌, length, ap₂, ◌∙◌, arith}
use Rattle.text.proofs.Writing.{appends_then}
use Rattle.rsp_line.specs.Hex.{bytes_of}
use Rattle.rsp_line.proofs.Digits.{length-bytes}
use Rattle.rsp_case.proofs.Kept.{head_written}
use Rattle.rsp_case.proofs.store.keep.Goals as goal

pub returns : goal.returns
returns c =
    let a = c.args in
    let n = length (bytes_of a.digits.now) in
    let long = length-bytes a.digits.now in
    let two : c.copy_from_slice.new.self ≡ n / 256 ∷ n % 256 ∷ [] =
    c.copy_from_slice.ensures.after ∙ c.to_be_bytes-length.ensures ∙
    ap₂ (λ high low. high ∷ low ∷ []) (omega (arith, long, c.requires.digits_value.1)) (omega (arith, long))
    in
    rw (← c.number.ensures)
    (appends_then (head_written a.store.now a.at c.number.result n _ two (omega (arith, c.requires.digits_in_bounds))) c.decode.ensures)
