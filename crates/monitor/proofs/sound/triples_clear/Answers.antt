-- `sound::triples_clear` meets its contract. Assumes nothing.
use Rattle.std.proofs.Common.{ℕ, eqb, rules, tests}
use Rattle.std.proofs.lemmas.Iterator.{YieldsList-from_slice}
use Rattle.std.proofs.lemmas.Iterator.Adapters.{YieldsList-from_skip}
use Rattle.step.specs.Padding.{clear}
use Rattle.step.proofs.OnLists.Alike.{every_from_all}
use Rattle.monitor.proofs.sound.triples_clear.Goals as goal

pub returns : goal.returns
unfolding clear
returns c = every_from_all (λ (x : ℕ). eqb x 0) _ _ c.all.result c.all.ensures.ran (YieldsList-from_skip c.args.from (YieldsList-from_slice c.args.triples.now cc) cc) (λ x b q k. search (rules, tests))
