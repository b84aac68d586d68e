-- `follow::read_values` meets its contract. Assumes nothing.
use native.Mathlib.Omega.{arith}
use Rattle.engine.proofs.OverLogs.Followed.{filling_start, filling_next, filling_end}
use Rattle.engine.proofs.follow.read_values.Goals as goal

pub loop-i-init : goal.loop-i-init
loop-i-init c = filling_start _ _ _ _

pub word_at-requires : goal.word_at-requires
word_at-requires c = omega (arith, c.loop-i.invariant.room, c.loop-i-test.true, c.requires.0)

pub loop-i-preserved : goal.loop-i-preserved
loop-i-preserved c = filling_next _ _ _ _ _ _ _ c.loop-i.invariant c.loop-i-test.true _ c.word_at.ensures

pub returns : goal.returns
returns c = filling_end _ _ _ _ _ _ _ c.loop-i.invariant c.loop-i-test.false
