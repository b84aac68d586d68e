-- `plan::posts` meets its contract. Assumes nothing.
use Rattle.engine.proofs.Plans.Linking.{Posting}
use Rattle.engine.proofs.plan.posts.Given as goal

abbrev pub invariant-loop-i : goal.invariant-loop-i
invariant-loop-i l = Posting l.s l.conditions l.size l.n l.at l.initial.plan l.plan l.i l.here
