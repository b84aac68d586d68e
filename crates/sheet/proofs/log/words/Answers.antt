-- `log::words` meets its contract. Assumes nothing.
use mathlib.Core.Path.{ap, ◌∙◌}
use lib.ListN.{drop}
use borrow.Author.Rules.{rules}
use Rattle.sheet.specs.Table.{fit}
use Rattle.sheet.specs.Decode.{word_form}
use Rattle.sheet.proofs.Tables.{map_starts}
use Rattle.sheet.proofs.log.words.Goals as goal

pub returns : goal.returns
returns c = c.numbers.ensures (λ k. word_form.value (drop k c.args.s.now)) (λ a b h. search rules) ∙ ap (fit 8 0) (map_starts word_form c.args.n c.args.s.now c.args.at)
