-- `text::violated` meets its contract. Assumes nothing.
use borrow.Author.Rules.{rules}
use Rattle.lines.proofs.Saying.{says_state, says_triple, says_both}
use Rattle.lines.proofs.text.violated.Goals as goal

pub returns-in-BadState : goal.returns-in-BadState
returns-in-BadState c = says_state _ c.named-next.ensures (search rules) c.from.ensures c.named-next-in-BadState.ensures c.text.ensures

pub returns-in-Triple : goal.returns-in-Triple
returns-in-Triple c = says_triple _ c.named-next.ensures c.named-next-in-Triple-2.ensures c.text-in-Triple.ensures (search rules) c.from-in-Triple.ensures c.text-next.ensures c.named-next-in-Triple.ensures

pub returns-in-Both : goal.returns-in-Both
returns-in-Both c = says_both _ c.named-next.ensures c.named-next-in-Both-3.ensures c.text-in-Both.ensures (search rules) c.from-in-Both.ensures c.from-in-Both-2.ensures c.named-next-in-Both.ensures c.named-next-in-Both-2.ensures
