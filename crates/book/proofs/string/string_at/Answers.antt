-- A length within its limit, and as many bytes.
use Rattle.std.proofs.Common.{◌≡◌, ◌+◌, ◌-◌, ◌≤◌, length, drop, arith, sym, ap, refl, ◌∙◌, length-drop}
use lib.Seq.{length-take-le}
use Rattle.book.specs.Reading.{found}
use Rattle.book.proofs.Strings.{string_whole}
use Rattle.book.proofs.string.string_at.Goals as goal

pub returns-clause-place : goal.returns-clause-place
returns-clause-place c =
    let all = c.in_ok-bytes.ensures.lookup.0 in
    let n = c.in_ok-n.n in
    let start = c.in_ok-n.start in
    let size : start + n - start ≡ n = omega arith in
    let inside : n ≤ length (drop start c.args.s.now) = simp length-drop (omega (arith, all.1)) in
    let long : length c.in_ok-bytes.bytes.now ≡ n = rw (all.2, size) (length-take-le n (drop start c.args.s.now) inside) in
    ap (λ k. found (record { start = start; length = k }) (start + n)) long ∙
    string_whole c.args.s.now c.args.at (sym c.in_ok-n.ensures) (omega arith) all.1 refl

pub returns-clause-bytes : goal.returns-clause-bytes
returns-clause-bytes c =
    let all = c.in_ok-bytes.ensures.lookup.0 in
    let size : c.in_ok-n.start + c.in_ok-n.n - c.in_ok-n.start ≡ c.in_ok-n.n = omega arith in
    rw (← string_whole c.args.s.now c.args.at (sym c.in_ok-n.ensures) (omega arith) all.1 refl, all.2, size) refl
