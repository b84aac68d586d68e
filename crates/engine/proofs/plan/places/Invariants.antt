-- `plan::places` meets its contract. Assumes nothing.
use Rattle.engine.proofs.Plans.Linking.{Placing}
use Rattle.engine.proofs.plan.places.Given as goal

abbrev pub invariant-loop-i : goal.invariant-loop-i
invariant-loop-i l = Placing l.paired l.n l.s l.at l.out l.i l.here
