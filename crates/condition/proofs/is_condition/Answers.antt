-- `is_condition` meets its contract. Assumes nothing.
use Rattle.std.proofs.Common.{arith}
use Rattle.condition.proofs.Answering.{sized_length, no_length, is_one}
use Rattle.condition.proofs.is_condition.Goals as goal

pub returns-else-s : goal.returns-else-s
returns-else-s c = no_length _ _ c.if-s.false

pub condition-end-requires : goal.condition-end-requires
condition-end-requires c = (omega (arith, sized_length c.args.s.now c.if-s.true), omega arith)

pub returns : goal.returns
returns c = is_one _ _ c.if-s.true _ c.condition-end.ensures
