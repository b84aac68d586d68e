-- `event::post` meets its contract. Assumes nothing.
use borrow.Author.Tests.{lt-ltb, le-ltb}
use Rattle.engine.proofs.event.post.Goals as goal

pub returns-then-i-lt32 : goal.returns-then-i-lt32
returns-then-i-lt32 c = rw (lt-ltb c.args.n 32 c.if-i-lt32.true) c.from.ensures

pub returns-else-i-lt32 : goal.returns-else-i-lt32
returns-else-i-lt32 c = rw (le-ltb c.args.n 32 c.if-i-lt32.false)
