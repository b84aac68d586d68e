-- `action::value` meets its contract. Assumes nothing.
use Rattle.std.proofs.Common.{rules}
use Rattle.condition.specs.Walk.{banks}
use Rattle.condition.proofs.action.value.Goals as goal

pub returns : goal.returns
unfolding banks
returns c = (search rules, rw c.front-monitor.ensures at c.value.ensures)
