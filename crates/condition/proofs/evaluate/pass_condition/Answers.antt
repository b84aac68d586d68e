-- `evaluate::pass_condition` meets its contract. Assumes nothing.
use Rattle.condition.specs.Walk.{banks}
use Rattle.condition.proofs.Evaluating.{passes}
use Rattle.condition.proofs.evaluate.pass_condition.Goals as goal

pub returns : goal.returns
unfolding banks
returns c = passes _ _ _ _ c.requires.0 c.condition.ensures
