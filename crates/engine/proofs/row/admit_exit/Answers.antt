-- `row::admit_exit` meets its contract. Assumes nothing.
use native.Mathlib.Omega.{arith}
use Rattle.engine.proofs.InWords.Refused.{exit_free, exit_other, exit_unknown}
use Rattle.engine.proofs.row.admit_exit.Goals as goal

pub bounds-row-place : goal.bounds-row-place
bounds-row-place c = omega (arith, c.requires.1 c.if-place-opened.true)

pub returns-then-row-place : goal.returns-then-row-place
returns-then-row-place c = exit_free _ _ _ _ c.if-place-opened.true c.if-row-place.true

pub returns-else-row-place : goal.returns-else-row-place
returns-else-row-place c = exit_other _ _ _ _ c.if-place-opened.true c.if-row-place.false

pub returns-else-place-opened : goal.returns-else-place-opened
returns-else-place-opened c = exit_unknown _ _ _ _ c.if-place-opened.false
