-- `action::skip_assignment` meets its contract. Assumes nothing.
use Rattle.condition.proofs.Running.{skips_assignment, skips_unlent}
use Rattle.condition.proofs.action.skip_assignment.Goals as goal

pub returns-then-from-lent : goal.returns-then-from-lent
returns-then-from-lent c = skips_assignment _ _ _ c.requires.1 _ (rw c.from.ensures at c.if-from-lent.true) c.value.ensures

pub returns-else-from-lent : goal.returns-else-from-lent
returns-else-from-lent c = skips_unlent _ _ _ c.requires.1 (rw c.from.ensures at c.if-from-lent.false)
