-- `index::index` meets its contract. Assumes nothing.
use mathlib.Core.Path.{ap, ◌∙◌}
use Rattle.std.proofs.lemmas.List.{map-id}
use borrow.Author.Rules.{rules}
use Rattle.sheet.specs.Table.{fit}
use Rattle.sheet.proofs.index.index.Goals as goal

pub returns : goal.returns
returns c = c.numbers.ensures (λ k. k) (λ a b h. search rules) ∙ ap (fit 161 0) (map-id _)
