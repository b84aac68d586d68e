-- `action::run` meets its contract. Assumes nothing.
use Rattle.std.proofs.Common.{◌+◌, ◌-◌, ◌/◌, ◌%◌, length}
use Rattle.condition.proofs.Running.{Carried}
use Rattle.condition.proofs.action.run.Given as goal

abbrev pub invariant-loop-c : goal.invariant-loop-c
invariant-loop-c l = Carried l.program l.count l.kept l.s (l.c % 65536) (l.c / 65536) l.initial.variables l.variables

abbrev pub decreases-loop-c : goal.decreases-loop-c
decreases-loop-c l = length l.s + 1 - l.c % 65536
