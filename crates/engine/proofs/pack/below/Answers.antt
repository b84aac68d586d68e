-- `pack::below` meets its contract. Assumes nothing.
use Rattle.engine.proofs.pack.below.Goals as goal

pub returns-then-first : goal.returns-then-first
returns-then-first c = rw c.if-first.true
