-- `front` meets its contract. Assumes nothing.
use Rattle.std.proofs.Common.{sym, arith, length-take-le, take_all}
use Rattle.condition.proofs.front.Goals as goal

pub slice_bounds-result-end : goal.slice_bounds-result-end
slice_bounds-result-end c = sym (length-take-le _ _ (omega arith))

pub returns-else-count-values : goal.returns-else-count-values
returns-else-count-values c = sym (take_all _ _ c.if-count-values.false)
