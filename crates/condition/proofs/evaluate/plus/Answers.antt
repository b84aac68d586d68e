-- `evaluate::plus` meets its contract. Assumes nothing.
use Rattle.condition.proofs.evaluate.plus.Goals as goal

pub returns : goal.returns
returns c = rw c.plus.ensures at c.packed.ensures
