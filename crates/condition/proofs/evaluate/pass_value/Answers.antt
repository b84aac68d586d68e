-- `evaluate::pass_value` meets its contract. Assumes nothing.
use Rattle.condition.specs.Walk.{banks}
use Rattle.condition.proofs.Evaluating.{passes}
use Rattle.condition.proofs.evaluate.pass_value.Goals as goal

pub returns : goal.returns
unfolding banks
returns c = passes _ _ _ _ c.requires.0 c.value.ensures
