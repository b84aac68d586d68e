-- `action::is_run` meets its contract. Assumes nothing.
use Rattle.std.proofs.Common.{◌+◌, ◌-◌, length}
use Rattle.condition.specs.Parse.{parse_action}
use Rattle.condition.proofs.Running.{Left, any_run}
use Rattle.condition.proofs.action.is_run.Given as goal

abbrev pub invariant-loop-at : goal.invariant-loop-at
invariant-loop-at l = Left l.lent l.s l.at any_run (any_run (parse_action l.lent l.s))

abbrev pub decreases-loop-at : goal.decreases-loop-at
decreases-loop-at l = length l.s + 1 - l.at
