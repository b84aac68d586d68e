-- `evaluate_value` meets its contract. Assumes nothing.
use Rattle.condition.specs.Walk.{banks}
use Rattle.condition.proofs.Answering.{walkable, value_length, value_answer, value_malformed}
use Rattle.condition.proofs.evaluate_value.Goals as goal

pub returns-else-s : goal.returns-else-s
returns-else-s c = rw c.refused.ensures (value_length _ _ c.if-s.false)

pub value-r-requires : goal.value-r-requires
value-r-requires c = walkable c.args.s.now c.if-s.true

pub returns-then-r-s : goal.returns-then-r-s
unfolding banks
returns-then-r-s c = value_answer _ _ c.if-s.true _ _ _ c.value-r.ensures c.if-r-s.true

pub returns-else-r-s : goal.returns-else-r-s
unfolding banks
returns-else-r-s c = rw c.refused-else-r-s.ensures (value_malformed _ _ c.if-s.true _ _ _ c.value-r.ensures c.if-r-s.false)
