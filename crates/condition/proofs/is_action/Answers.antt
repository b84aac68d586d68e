-- `is_action` meets its contract. Assumes nothing.
use Rattle.std.proofs.Common.{◌∙◌}
use Rattle.condition.proofs.Answering.{run_long, run_judged}
use Rattle.condition.proofs.is_action.Goals as goal

pub returns-else-s-le-LONGEST_ACTION : goal.returns-else-s-le-LONGEST_ACTION
returns-else-s-le-LONGEST_ACTION c = run_long _ _ c.if-s-le-LONGEST_ACTION.false

pub returns : goal.returns
returns c = c.is_run.ensures ∙ run_judged _ _ c.if-s-le-LONGEST_ACTION.true
