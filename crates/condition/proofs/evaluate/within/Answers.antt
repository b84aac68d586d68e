-- `evaluate::within` meets its contract. Assumes nothing.
use Rattle.condition.proofs.evaluate.within.Goals as goal

pub returns : goal.returns
returns c = rw c.within.ensures at c.judged.ensures
