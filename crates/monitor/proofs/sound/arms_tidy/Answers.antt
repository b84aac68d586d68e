-- `sound::arms_tidy` meets its contract. Assumes nothing.
use Rattle.std.proofs.Common.{rules, tests}
use Rattle.std.proofs.lemmas.Iterator.{YieldsList-from_slice}
use Rattle.step.proofs.OnLists.Alike.{every_from_all}
use Rattle.monitor.specs.Padded.{tidy_arms}
use Rattle.monitor.proofs.sound.arms_tidy.Goals as goal

pub returns : goal.returns
returns c = every_from_all tidy_arms _ _ c.all.result c.all.ensures.ran (YieldsList-from_slice c.args.arms.now cc) (λ x b q k. search (rules, tests))
