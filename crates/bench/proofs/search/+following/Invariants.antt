-- `following` ends: what is left of the n bytes falls. Assumes nothing.
use Prim.Native.Nat.{◌-◌}
use Rattle.bench.proofs.search.+following.Given as goal

abbrev pub decreases-following : goal.decreases-following
decreases-following l = l.n - l.at
