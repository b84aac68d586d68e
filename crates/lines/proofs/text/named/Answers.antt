-- `text::named` meets its contract. Assumes nothing.
use Rattle.lines.proofs.Saying.{says_named}
use Rattle.lines.proofs.text.named.Goals as goal

pub returns : goal.returns
returns c = says_named _ _ c.requires.1 c.text-next.ensures c.number.ensures
