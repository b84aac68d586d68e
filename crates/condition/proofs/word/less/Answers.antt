-- `word::less` meets its contract. Assumes nothing.
use Rattle.condition.proofs.Words.{less_moved}
use Rattle.condition.proofs.word.less.Goals as goal

pub returns : goal.returns
returns c = rw (c.raised.ensures.0, c.raised-2.ensures.0) (less_moved _ _ c.ranges.a.fits c.ranges.b.fits)
