-- `action::run` meets its contract. Assumes nothing.
use Rattle.std.proofs.Common.{arith}
use Rattle.condition.proofs.Running.{carried_start, carried_next, carried_end, carried_bad}
use Rattle.condition.proofs.action.run.Goals as goal

pub loop-c-init : goal.loop-c-init
loop-c-init c = carried_start _ _ _ _ _

pub assign-c-requires : goal.assign-c-requires
assign-c-requires c = omega (arith, c.loop-c.invariant.few)

pub loop-c-smaller : goal.loop-c-smaller
loop-c-smaller c = omega (arith, c.assign-c.ensures.skips.low)

pub loop-c-preserved : goal.loop-c-preserved
loop-c-preserved c = carried_next _ _ _ _ _ _ _ _ c.loop-c.invariant _ _ _ c.loop-c-test.true c.assign-c.ensures

pub returns-then-c-s : goal.returns-then-c-s
returns-then-c-s c = carried_end _ _ _ _ _ _ _ _ c.loop-c.invariant c.if-c-s.true

pub returns-else-c-s : goal.returns-else-c-s
returns-else-c-s c = carried_bad _ _ _ _ _ _ _ _ c.loop-c.invariant c.loop-c-test.false c.if-c-s.false
