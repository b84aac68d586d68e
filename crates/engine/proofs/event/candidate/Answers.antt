-- `event::candidate` meets its contract. Assumes nothing.
use borrow.Author.Rules.{rules}
use borrow.Author.Tests.{eq-eqb, ne_eqb}
use lib.ListN.{get_or}
use Rattle.engine.proofs.event.candidate.Goals as goal

pub returns-then-plan-eq0 : goal.returns-then-plan-eq0
returns-then-plan-eq0 c = (rw (eq-eqb (get_or c.args.plan.now 4 0) 0 c.if-plan-eq0.true) c.from.ensures, search rules)

pub returns-else-plan-eq0 : goal.returns-else-plan-eq0
returns-else-plan-eq0 c = (rw (ne_eqb (get_or c.args.plan.now 4 0) 0 c.if-plan-eq0.false) c.from-else-plan-eq0.ensures, search rules)
