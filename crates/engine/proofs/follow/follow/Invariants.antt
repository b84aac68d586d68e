-- `follow::follow` meets its contract. Assumes nothing.
use Prim.Native.Nat.{◌-◌}
use Rattle.engine.specs.Walk.{words}
use Rattle.engine.proofs.OverLogs.Followed.{Held}
use Rattle.engine.proofs.follow.follow.Given as goal

abbrev pub invariant-loop-at : goal.invariant-loop-at
invariant-loop-at l = Held l.s l.plan l.programs l.log l.count l.size l.end (words l.run l.row l.variables) l.values l.i l.total l.at

abbrev pub decreases-loop-at : goal.decreases-loop-at
decreases-loop-at l = l.end - l.at
