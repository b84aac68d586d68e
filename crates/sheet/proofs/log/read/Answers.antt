-- `log::read` meets its contract. Assumes nothing.
use Rattle.sheet.proofs.Readers.Logs.{log_16, log_long, log_17, log_18, log_accepted}
use Rattle.sheet.proofs.log.read.Goals as goal

pub returns-else-s-said : goal.returns-else-s-said
returns-else-s-said c = log_16 _ _ _ _ _ c.word-said.ensures c.number-version.ensures.0 c.number-lent.ensures.0 c.if-s-said.false

pub returns-else-lent-programs : goal.returns-else-lent-programs
returns-else-lent-programs c = log_17 _ _ _ _ _ c.word-said.ensures c.number-version.ensures.0 c.number-lent.ensures.0 c.if-s-said.true c.if-lent-programs.false

pub overflow_sub-rest : goal.overflow_sub-rest
overflow_sub-rest c = log_long c.args.programs c.args.s.now _ _ _ c.word-said.ensures c.number-version.ensures.0 c.number-lent.ensures.0 c.if-s-said.true

pub returns-then-rest-size-eq0 : goal.returns-then-rest-size-eq0
returns-then-rest-size-eq0 c = log_accepted _ _ _ _ _ c.word-said.ensures c.number-version.ensures.0 c.number-lent.ensures.0 c.if-s-said.true c.if-lent-programs.true c.if-rest-size-eq0.true

pub returns-else-rest-size-eq0 : goal.returns-else-rest-size-eq0
returns-else-rest-size-eq0 c = log_18 _ _ _ _ _ c.word-said.ensures c.number-version.ensures.0 c.number-lent.ensures.0 c.if-s-said.true c.if-lent-programs.true c.if-rest-size-eq0.false
