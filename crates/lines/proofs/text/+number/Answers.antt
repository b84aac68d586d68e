-- `text::number` meets its contract. Assumes nothing.
use Rattle.std.proofs.Common.{rules}
use Rattle.lines.proofs.Saying.{says_digit, says_digits}
use Rattle.lines.proofs.text.+number.Goals as goal

pub returns-then-n-lt10 : goal.returns-then-n-lt10
returns-then-n-lt10 t c = says_digit _ c.if-n-lt10.true c.digit.ensures c.text.ensures

pub returns : goal.returns
returns t c = says_digits _ c.if-n-lt10.false (search rules) c.digit-2.ensures c.number-next.ensures c.text-2.ensures
