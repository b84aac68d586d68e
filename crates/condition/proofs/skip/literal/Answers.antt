-- `skip::literal` meets its contract. Assumes nothing.
use Rattle.std.proofs.Common.{refl, arith, le-leb}
use borrow.Author.Tests.{lt-leb}
use Rattle.condition.proofs.Walking.{tried, tried_none}
use Rattle.condition.proofs.skip.literal.Goals as goal

pub returns-then-at-s : goal.returns-then-at-s
returns-then-at-s c = rw (le-leb _ _ c.if-at-s.true) (tried _ (omega arith) refl)

pub returns-else-at-s : goal.returns-else-at-s
returns-else-at-s c = rw (lt-leb _ _ c.if-at-s.false) (tried_none refl)
