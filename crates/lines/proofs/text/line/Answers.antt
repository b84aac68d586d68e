-- `text::line` meets its contract. Assumes nothing.
use mathlib.Core.Path.{◌∙◌}
use borrow.Author.Rules.{rules}
use Rattle.lines.proofs.Saying.{says_answer, says_refused, says_refused_at}
use Rattle.lines.proofs.text.line.Goals as goal

pub returns-in-Violated : goal.returns-in-Violated
returns-in-Violated c = says_answer (search rules) c.violated.ensures

pub returns-in-Clean : goal.returns-in-Clean
returns-in-Clean c = says_answer (search rules) c.clean.ensures

pub returns-in-Refused : goal.returns-in-Refused
returns-in-Refused c = says_answer (search rules) (says_refused _ (c.from.ensures ∙ c.number.ensures) c.named-next.ensures c.text.ensures)

pub returns-in-RefusedAt : goal.returns-in-RefusedAt
returns-in-RefusedAt c = says_answer (search rules) (says_refused_at _ _ (c.from-in-RefusedAt.ensures ∙ c.number-in-RefusedAt.ensures) c.named-next-in-RefusedAt.ensures c.named-next-in-RefusedAt-2.ensures c.text-in-RefusedAt.ensures)
