-- `offer_all` meets its contract. Assumes nothing.
use Prim.Native.Nat.{◌-◌}
use Rattle.replay.proofs.Following.{Offering}
use Rattle.replay.proofs.offer_all.Given as goal

abbrev pub invariant-loop-at : goal.invariant-loop-at
invariant-loop-at l = Offering l.network l.programs l.log l.initial.answers l.size l.end l.answers l.state l.i l.at

abbrev pub decreases-loop-at : goal.decreases-loop-at
decreases-loop-at l = l.end - l.at
