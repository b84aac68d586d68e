-- `event::holds` meets its contract. Assumes nothing.
use borrow.Author.Tests.{eq-eqb, ne_eqb}
use Rattle.engine.proofs.event.holds.Goals as goal

pub returns-then-at-eq0 : goal.returns-then-at-eq0
returns-then-at-eq0 c =
    let none = eq-eqb c.args.at 0 c.if-at-eq0.true in
    (rw none, rw none)

pub returns-else-at-eq0 : goal.returns-else-at-eq0
returns-else-at-eq0 c = rw (ne_eqb c.args.at 0 c.if-at-eq0.false) c.holds_at.ensures
