-- `plan::posts` meets its contract. Assumes nothing.
use Rattle.engine.proofs.Plans.Linking.{posting_start, posting_next, posting_end}
use Rattle.engine.proofs.plan.posts.Goals as goal

pub loop-i-init : goal.loop-i-init
loop-i-init c = posting_start _ _ _ _ _ _

pub loop-i-preserved : goal.loop-i-preserved
loop-i-preserved c = posting_next _ _ _ _ _ _ _ _ _ c.loop-i.invariant c.loop-i-test.true c.requires.3 _ c.byte_at.ensures _ c.text.ensures

pub returns : goal.returns
returns c = posting_end _ _ _ _ _ _ _ _ _ c.loop-i.invariant c.loop-i-test.false
