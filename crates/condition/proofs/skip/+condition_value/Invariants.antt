-- The cycle of `skip::condition` and `skip::value` meets its contracts: the remaining length falls at each call, and each operator's
-- arm is a law of Walking. Assumes nothing.
use Rattle.std.proofs.Common.{◌-◌, length}
use Rattle.condition.proofs.skip.+condition_value.Given as goal

abbrev pub decreases-condition : goal.decreases-condition
decreases-condition l = length l.s.now.now - l.at

abbrev pub decreases-value : goal.decreases-value
decreases-value l = length l.s.now.now - l.at
