-- `evaluate::minus` meets its contract. Assumes nothing.
use Rattle.condition.proofs.evaluate.minus.Goals as goal

pub returns : goal.returns
returns c = rw c.minus.ensures at c.packed.ensures
