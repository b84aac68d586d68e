-- `plan::pairs` meets its contract. Assumes nothing.
use Rattle.engine.proofs.Plans.Linking.{Pairing}
use Rattle.engine.proofs.plan.pairs.Given as goal

abbrev pub invariant-loop-left : goal.invariant-loop-left
invariant-loop-left l = Pairing l.s l.conditions l.i l.at l.n l.initial.plan l.plan l.left l.from l.to
