-- `word::clamped` meets its contract. Assumes nothing.
use Rattle.std.proofs.Common.{sym}
use Rattle.condition.proofs.Ends.{clamped_low, clamped_between, clamped_high}
use Rattle.condition.proofs.word.clamped.Goals as goal

pub returns-then-n-lt-HALF : goal.returns-then-n-lt-HALF
returns-then-n-lt-HALF c = sym (clamped_low c.args.n c.if-n-lt-HALF.true)

pub returns-then-n : goal.returns-then-n
returns-then-n c = sym (clamped_between c.args.n c.if-n-lt-HALF.false c.if-n.true)

pub returns-else-n : goal.returns-else-n
returns-else-n c = sym (clamped_high c.args.n c.if-n.false)
