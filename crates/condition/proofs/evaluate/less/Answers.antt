-- `evaluate::less` meets its contract. Assumes nothing.
use Rattle.condition.proofs.evaluate.less.Goals as goal

pub returns : goal.returns
returns c = rw c.less.ensures at c.judged.ensures
