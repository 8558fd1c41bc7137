-- What a read gives stands behind what the reads before it gave.
use Rattle.std.proofs.Common.{◌≡◌, ◌≤◌, ◌+◌, ◌++◌, ℕ, List, length, take, sym, ap, subst, ◌∙◌, rules}
use lib.Seq.{length-take-le, take-append-add, take-append-le}
use Rattle.std.specs.Io.KnownBytes.{Consumes}
use Rattle.std.proofs.KnownBytes.{Consumes-trans}
use Rattle.input.proofs.read_full.Goals as goal

filled : (at n : ℕ) (buffer part behind : List ℕ) → at ≤ length buffer → n ≤ length part
    → take (at + n) (take at buffer ++ (part ++ behind)) ≡ take at buffer ++ take n part
filled at n buffer part behind inside fits =
    ap (λ k. take (k + n) (take at buffer ++ (part ++ behind))) (sym (length-take-le at buffer inside)) ∙
    take-append-add (take at buffer) (part ++ behind) n ∙
    ap (λ l. take at buffer ++ l) (take-append-le n part behind fits)

pub loop-at-preserved : goal.loop-at-preserved
loop-at-preserved g c =
    let was = c.loop-at.invariant in
    let read = c.in_ok-n.ensures in
    record {
      within = search rules;
      read =
          subst (Consumes _ _) (sym (filled _ _ _ _ _ was.within read.bound.0)) (Consumes-trans _ _ _ _ _ was.read read.bytes.0);
    }
