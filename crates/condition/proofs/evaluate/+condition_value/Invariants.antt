-- The cycle of `evaluate::condition` and `evaluate::value` meets its contracts: the remaining length falls at each call, and each
-- operator's arm is a law of Evaluating. Assumes nothing.
use Rattle.std.proofs.Common.{◌-◌, ◌%◌, length}
use Rattle.condition.proofs.evaluate.+condition_value.Given as goal

abbrev pub decreases-condition : goal.decreases-condition
decreases-condition l = length l.s.now.now - l.c % 65536

abbrev pub decreases-value : goal.decreases-value
decreases-value l = length l.s.now.now - l.c % 65536
