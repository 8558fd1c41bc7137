-- After i hashes the output holds those of the first i turns of the group too.
use Rattle.std.proofs.Common.{ℕ, ◌+◌, List}
use Rattle.hashgen.specs.Turns.{Filled, HashesFrom}
use Rattle.hashgen.proofs.groups.put_hashes.Given as goal

abbrev pub invariant-loop-i : goal.invariant-loop-i
invariant-loop-i l =
    (v : List ℕ) → HashesFrom v l.turn l.words-items → Filled v l.turn l.initial.out → Filled v (l.turn + l.i) l.out
