-- `sheet_size` meets its contract. Assumes nothing.
use mathlib.Core.Path.{◌∙◌}
use borrow.Author.Rules.{rules}
use native.Mathlib.Omega.{arith}
use Rattle.lines.proofs.Printing.{size_all, size_said, size_short}
use Rattle.lines.proofs.sheet_size.Goals as goal

pub returns-then-input-lt2 : goal.returns-then-input-lt2
returns-then-input-lt2 c = (size_all _ c.if-input-lt2.true, search rules)

pub returns-then-said-input : goal.returns-then-said-input
returns-then-said-input c = (size_said _ c.if-input-lt2.false _ (c.from-said.ensures ∙ c.from_be_bytes.ensures ∙ omega arith) c.if-said-input.true, search rules)

pub returns-else-said-input : goal.returns-else-said-input
returns-else-said-input c = (size_short _ c.if-input-lt2.false _ (c.from-said.ensures ∙ c.from_be_bytes.ensures ∙ omega arith) c.if-said-input.false, search rules)
