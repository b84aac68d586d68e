-- `evaluate_condition` meets its contract. Assumes nothing.
use Rattle.condition.specs.Walk.{banks}
use Rattle.condition.proofs.Answering.{walkable, condition_length, condition_answer, condition_malformed}
use Rattle.condition.proofs.evaluate_condition.Goals as goal

pub returns-else-s : goal.returns-else-s
returns-else-s c = rw c.refused.ensures (condition_length _ _ c.if-s.false)

pub condition-r-requires : goal.condition-r-requires
condition-r-requires c = walkable c.args.s.now c.if-s.true

pub returns-then-r-s : goal.returns-then-r-s
unfolding banks
returns-then-r-s c = condition_answer _ _ c.if-s.true _ _ _ c.condition-r.ensures c.if-r-s.true

pub returns-else-r-s : goal.returns-else-r-s
unfolding banks
returns-else-r-s c = rw c.refused-else-r-s.ensures (condition_malformed _ _ c.if-s.true _ _ _ c.condition-r.ensures c.if-r-s.false)
