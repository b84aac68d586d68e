-- `run` meets its contract. Assumes nothing.
use mathlib.Core.Path.{◌∙◌}
use Rattle.monitor.proofs.Offers.Machined.{answer_same, counts_same}
use Rattle.monitor.proofs.run.Goals as goal

pub returns : goal.returns
returns c =
    let a = c.args in
    (c.run_sheet.ensures.0 ∙ answer_same a.s.now a.log.now, c.run_sheet.ensures.1 ∙ counts_same a.s.now a.log.now)
