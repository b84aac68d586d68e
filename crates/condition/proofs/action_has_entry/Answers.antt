-- `action_has_entry` meets its contract. Assumes nothing.
use Rattle.std.proofs.Common.{true, sym, ◌∙◌}
use Rattle.condition.specs.Answer.{action_which}
use Rattle.condition.proofs.Answering.{run_has_entry, none_named, some_named}
use Rattle.condition.proofs.action_has_entry.Goals as goal

pub returns-then-is_action : goal.returns-then-is_action
returns-then-is_action c =
    let a = c.args in
    none_named (action_which (λ _. true) a.lent a.s.now) _ _ (run_has_entry a.lent a.s.now) (sym c.is_action.ensures ∙ c.if-is_action.true)

pub returns-else-is_action : goal.returns-else-is_action
returns-else-is_action c =
    let a = c.args in
    c.is_action-else-is_action.ensures ∙ some_named (action_which (λ _. true) a.lent a.s.now) _ _ (run_has_entry a.lent a.s.now) (sym c.is_action.ensures ∙ c.if-is_action.false)
