-- `plan::text` meets its contract. Assumes nothing.
use Rattle.engine.proofs.Plans.Storing.{text_nothing, text_something}
use Rattle.engine.proofs.plan.text.Goals as goal

pub returns-then-byte_at-eq0 : goal.returns-then-byte_at-eq0
returns-then-byte_at-eq0 c = text_nothing _ _ _ _ c.start.ensures.0 _ c.lead.ensures.0 _ c.byte_at.ensures c.if-byte_at-eq0.true

pub returns-else-byte_at-eq0 : goal.returns-else-byte_at-eq0
returns-else-byte_at-eq0 c = text_something _ _ _ _ c.start.ensures.0 _ c.lead.ensures.0 _ c.byte_at.ensures c.if-byte_at-eq0.false
