-- `plan::action` meets its contract. Assumes nothing.
use Rattle.engine.proofs.Plans.Storing.{action_nothing, action_something}
use Rattle.engine.proofs.plan.action.Goals as goal

pub returns-then-byte_at-eq0 : goal.returns-then-byte_at-eq0
returns-then-byte_at-eq0 c = action_nothing _ _ _ _ c.start-at.ensures.0 _ c.byte_at.ensures c.if-byte_at-eq0.true

pub returns-else-byte_at-eq0 : goal.returns-else-byte_at-eq0
returns-else-byte_at-eq0 c = action_something _ _ _ _ c.start-at.ensures.0 _ c.byte_at.ensures c.if-byte_at-eq0.false
