-- `text::clean` meets its contract. Assumes nothing.
use Rattle.lines.proofs.Saying.{says_clean}
use Rattle.lines.proofs.text.clean.Goals as goal

pub returns : goal.returns
returns c = says_clean _ _ _ c.from.ensures c.from-2.ensures c.named-next.ensures c.named-next-2.ensures c.named-next-3.ensures c.text.ensures
