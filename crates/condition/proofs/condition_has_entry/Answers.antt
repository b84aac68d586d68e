-- `condition_has_entry` meets its contract. Assumes nothing.
use Rattle.std.proofs.Common.{true, sym, ◌∙◌}
use Rattle.condition.specs.Answer.{condition_which}
use Rattle.condition.proofs.Answering.{has_entry, none_named, some_named}
use Rattle.condition.proofs.condition_has_entry.Goals as goal

pub returns-then-is_condition : goal.returns-then-is_condition
returns-then-is_condition c =
    let a = c.args in
    none_named (condition_which (λ _. true) a.lent a.s.now) _ _ (has_entry a.lent a.s.now) (sym c.is_condition.ensures ∙ c.if-is_condition.true)

pub returns-else-is_condition : goal.returns-else-is_condition
returns-else-is_condition c =
    let a = c.args in
    c.is_condition-else-is_condition.ensures ∙ some_named (condition_which (λ _. true) a.lent a.s.now) _ _ (has_entry a.lent a.s.now) (sym c.is_condition.ensures ∙ c.if-is_condition.false)
