-- `perform_at` meets its contract. Assumes nothing.
use Rattle.std.proofs.Common.{◌≡◌, ℕ, Option, Some, None, refl, ap, ◌∙◌}
use Rattle.std.specs.Option.{unwrap_or}
use Rattle.condition.specs.Answer.{performed_on}
use Rattle.condition.proofs.Answering.{action_refused, action_performed}
use Rattle.condition.specs.Walk.{evaluated}
use Rattle.condition.proofs.perform_at.Goals as goal

evaluated_or : (o : Option ℕ) → unwrap_or o 0 ≡ evaluated o
evaluated_or (Some n) = refl
evaluated_or None = refl

pub returns-then-text-le-LONGEST_ACTION : goal.returns-then-text-le-LONGEST_ACTION
returns-then-text-le-LONGEST_ACTION c = let e = action_performed _ _ c.if-text-le-LONGEST_ACTION.true in rw (← c.text_at-text.ensures) (c.run.ensures.1 ∙ ap (performed_on _ _) e.0, c.unwrap_or.ensures ∙ evaluated_or c.run.result ∙ c.run.ensures.2 ∙ e.1)

pub returns-else-text-le-LONGEST_ACTION : goal.returns-else-text-le-LONGEST_ACTION
returns-else-text-le-LONGEST_ACTION c = let e = action_refused _ _ c.if-text-le-LONGEST_ACTION.false in rw (← c.text_at-text.ensures) (ap (performed_on _ _) e.0, e.1)
