-- `plan::start` meets its contract. Assumes nothing.
use native.Mathlib.Omega.{arith}
use lib.ListN.{get_or-eq_default}
use Rattle.engine.proofs.plan.start.Goals as goal

pub returns-then-k-all : goal.returns-then-k-all
returns-then-k-all c = (rw c.from-k.ensures, omega arith)

pub returns-else-k-all : goal.returns-else-k-all
returns-else-k-all c =
    let a = c.args in
    (rw (get_or-eq_default a.index.now 0 {n = a.i} (omega (arith, c.from-k.ensures, c.if-k-all.false))), omega arith)
