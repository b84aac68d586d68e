-- `action::assign` meets its contract. Assumes nothing.
use Rattle.std.proofs.Common.{arith}
use Rattle.condition.proofs.Running.{assigns_front, assigns_past}
use Rattle.condition.proofs.action.assign.Goals as goal

pub returns-else-target-count : goal.returns-else-target-count
returns-else-target-count c = assigns_past _ _ c.args.s.now c.args.c _ _ c.value-r.ensures.0 _ c.requires.0 c.requires.1.0 c.from-target.ensures (omega arith)

pub returns-else-target-lt-VARIABLES : goal.returns-else-target-lt-VARIABLES
returns-else-target-lt-VARIABLES c = assigns_past _ _ c.args.s.now c.args.c _ _ c.value-r.ensures.0 _ c.requires.0 c.requires.1.0 c.from-target.ensures (omega arith)

pub returns : goal.returns
returns c = assigns_front _ _ c.args.s.now c.args.c _ _ c.value-r.ensures.0 _ c.requires.0 c.requires.1.0 c.from-target.ensures _ _ (omega arith) c.value-r.ensures.1
