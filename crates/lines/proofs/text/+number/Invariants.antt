-- `text::number` ends: the rest has a digit less. Assumes nothing.
use Rattle.lines.proofs.text.+number.Given as goal

abbrev pub decreases-number : goal.decreases-number
decreases-number l = l.n
