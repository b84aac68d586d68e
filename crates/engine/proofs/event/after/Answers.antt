-- `event::after` meets its contract. Assumes nothing.
use Rattle.engine.proofs.event.after.Goals as goal

pub returns : goal.returns
returns c = rw c.outcome.ensures
