-- Zeros stand before the copied number, and they change no number.
use Rattle.std.proofs.Common.{ℕ, ◌+◌, ◌-◌, ◌≤◌, ◌++◌, length, take, replicate, refl, ap, ◌∙◌, append-nil, arith, drop_of_length-le}
use Rattle.standard.specs.Strings.{number_of}
use Rattle.sums.proofs.Carries.{number_of_widened}
use Rattle.copies.proofs.Pasted.{pasted}
use Rattle.sums.proofs.widened.Goals as goal

pub returns : goal.returns
returns c =
    let s = c.args.s.now in
    let at = 55 - length s in
    let end : length {A = ℕ} (replicate 55 0) ≤ at + length s = omega arith in
    let filled = c.copy.ensures ∙ pasted (replicate 55 0) s at (length s) refl in
    let rest = ap (λ r. s ++ r) (drop_of_length-le (replicate 55 0) end) ∙ append-nil s in
    ap number_of (filled ∙ ap (λ r. take at (replicate 55 0) ++ r) rest) ∙ number_of_widened at 55 s
