-- `skip::variable` meets its contract. Assumes nothing.
use Rattle.std.proofs.Common.{refl, arith, le-ltb, lt-ltb}
use Rattle.condition.proofs.Walking.{tried, tried_none}
use Rattle.condition.proofs.skip.variable.Goals as goal

pub returns-then-from-limit : goal.returns-then-from-limit
returns-then-from-limit c = rw (lt-ltb _ _ c.requires.1, ← c.from.ensures, lt-ltb _ _ c.if-from-limit.true) (tried _ (omega arith) refl)

pub returns-else-from-limit : goal.returns-else-from-limit
returns-else-from-limit c = rw (lt-ltb _ _ c.requires.1, ← c.from.ensures, le-ltb _ _ c.if-from-limit.false) (tried_none refl)
