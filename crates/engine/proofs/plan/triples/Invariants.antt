-- `plan::triples` meets its contract. Assumes nothing.
use Rattle.engine.proofs.Plans.Linking.{Tripling}
use Rattle.engine.proofs.plan.triples.Given as goal

abbrev pub invariant-loop-i : goal.invariant-loop-i
invariant-loop-i l = Tripling l.s l.conditions l.at l.n l.initial.plan l.plan l.i l.here
