-- `rows::eight` meets its contract. Assumes nothing.
use Rattle.step.proofs.OnLists.Filling.{fit_front}
use Rattle.step.proofs.rows.eight.Goals as goal

pub returns : goal.returns
returns c = rw c.copy_from_slice.ensures.after (fit_front 0 8 c.args.values.now c.min-n.result c.min-n.ensures)
