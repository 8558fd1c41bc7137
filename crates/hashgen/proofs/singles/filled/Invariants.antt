-- Each turn's hash goes behind those of the turns before it.
use Rattle.hashgen.specs.Turns.{Onward}
use Rattle.hashgen.proofs.singles.filled.Given as goal

abbrev pub invariant-loop-turn : goal.invariant-loop-turn
invariant-loop-turn l = Onward l.first l.turn l.initial.next l.initial.out l.next l.out
