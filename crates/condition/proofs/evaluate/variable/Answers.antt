-- `evaluate::variable` meets its contract. Assumes nothing.
use Rattle.std.proofs.Common.{refl}
use Rattle.condition.proofs.Evaluating.{variable_found, variable_none}
use Rattle.condition.proofs.evaluate.variable.Goals as goal

pub returns-then-i-values : goal.returns-then-i-values
returns-then-i-values c = variable_found c.args.s.now.now _ _ _ c.args.values.now _ c.from-i.ensures c.requires.1 c.if-i-values.true refl

pub returns-else-i-values : goal.returns-else-i-values
returns-else-i-values c = variable_none c.args.s.now.now _ _ _ c.args.values.now _ c.from-i.ensures c.if-i-values.false
