-- A hash more, whole, behind those of the turns before it.
use Rattle.std.proofs.Common.{◌≡◌, ◌+◌, ◌-◌, ◌*◌, ◌<◌, min, sym, ap, ◌∙◌, subst, length, get_or, arith}
use lib.Seq.{paste}
use Rattle.standard.specs.Hash.{digest}
use Rattle.standard.specs.Sha256.{sha256}
use Rattle.compression.specs.Values.{eight_of}
use Rattle.lanes.specs.Lanes.{no_eight}
use Rattle.hashgen.specs.Turns.{Filled}
use Rattle.hashgen.proofs.Turns.{filled-stored}
use Rattle.hashgen.proofs.groups.put_hashes.Goals as goal

pub loop-i-preserved : goal.loop-i-preserved
loop-i-preserved c =
    let l = c.loop-i in
    let n = c.args.turn + l.i in
    let w = digest sha256 (eight_of (get_or c.args.s l.i no_eight)) in
    let new = c.put.new.out in
    let size : length new ≡ length l.out = c.put.auto.out in
    let next : n + 1 ≡ c.args.turn + (l.i + 1) = omega arith in
    let inside : 32 * n < length l.out = omega arith in
    let whole : min 32 (length l.out - 32 * n) ≡ 32 = omega arith in
    let stored : new ≡ paste l.out (32 * n) w (min 32 (length l.out - 32 * n)) =
    c.put.ensures ∙ ap (paste l.out (32 * n) w) (sym whole) in
    λ v hashes filled.
    subst (λ k. Filled v k new) next
    (filled-stored v n l.out new w (ap (digest sha256) (hashes l.i (omega arith))) (l.invariant v hashes filled) size inside stored)
