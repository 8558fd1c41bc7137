-- After i turns the first 2 i words are copied.
use Rattle.std.proofs.Common.{◌≡◌, ◌*◌, length, take, drop}
use Rattle.lanes.proofs.lane_words.Given as goal

abbrev pub invariant-loop-i : goal.invariant-loop-i
invariant-loop-i l = (length l.w ≡ 16) × (take (2 * l.i) l.w ≡ take (2 * l.i) (drop (16 * l.l) l.words))
