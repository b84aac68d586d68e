-- `run` meets its contract. Assumes nothing.
use mathlib.Core.Path.{◌∙◌}
use Rattle.network.proofs.ByMachine.Runs.{run_same, counts_same}
use Rattle.network.proofs.run.Goals as goal

pub returns : goal.returns
returns c =
    let a = c.args in
    (c.run_network.ensures.0 ∙ run_same a.s.now a.log.now, c.run_network.ensures.1 ∙ counts_same a.s.now a.log.now)
