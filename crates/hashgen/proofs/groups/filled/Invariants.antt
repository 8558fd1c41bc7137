-- Groups that follow groups.
use Rattle.std.proofs.Common.{◌*◌}
use Rattle.hashgen.specs.Turns.{Onward}
use Rattle.hashgen.proofs.groups.filled.Given as goal

abbrev pub invariant-loop-group : goal.invariant-loop-group
invariant-loop-group l = Onward 0 (4 * l.group) l.initial.next l.initial.out l.next l.out
