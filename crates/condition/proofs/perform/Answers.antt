-- `perform` meets its contract. Assumes nothing.
use Rattle.std.proofs.Common.{ap, ◌∙◌}
use Rattle.condition.specs.Answer.{done, performed_on}
use Rattle.condition.proofs.Answering.{action_refused, action_performed}
use Rattle.condition.proofs.perform.Goals as goal

pub returns-else-s-le-LONGEST_ACTION : goal.returns-else-s-le-LONGEST_ACTION
returns-else-s-le-LONGEST_ACTION c = let e = action_refused _ _ c.if-s-le-LONGEST_ACTION.false in (ap done e.0, ap (performed_on _ _) e.0, e.1)

pub returns-in-Some : goal.returns-in-Some
returns-in-Some c = let e = action_performed _ _ c.if-s-le-LONGEST_ACTION.true in (c.in-Some.ensures.0 ∙ ap done e.0, c.in-Some.ensures.1 ∙ ap (performed_on _ _) e.0, c.in-Some.ensures.2 ∙ e.1)

pub returns-in-None : goal.returns-in-None
returns-in-None c = let e = action_performed _ _ c.if-s-le-LONGEST_ACTION.true in (c.in-None.ensures.0 ∙ ap done e.0, c.in-None.ensures.1 ∙ ap (performed_on _ _) e.0, c.in-None.ensures.2 ∙ e.1)
