-- `evaluate::judged` meets its contract. Assumes nothing.
use Rattle.std.proofs.Common.{arith}
use Rattle.condition.proofs.evaluate.judged.Goals as goal

pub returns-then-holds : goal.returns-then-holds
returns-then-holds c = record { place = omega arith; truth = rw c.if-holds.true (omega arith) }

pub returns-else-holds : goal.returns-else-holds
returns-else-holds c = record { place = omega arith; truth = rw c.if-holds.false (omega arith) }
