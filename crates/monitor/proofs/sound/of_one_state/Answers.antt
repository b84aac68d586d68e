-- `sound::of_one_state` meets its contract. Assumes nothing.
use Rattle.std.proofs.Common.{ℕ, eqb, get_or, rules, tests}
use Rattle.std.proofs.lemmas.Iterator.{YieldsList-from_slice}
use Rattle.step.proofs.OnLists.Alike.{every_from_all}
use Rattle.monitor.specs.Walk.{triple_at}
use Rattle.monitor.proofs.SoundTests.Testing.{none_armed}
use Rattle.monitor.proofs.sound.of_one_state.Goals as goal

pub returns-then-is_empty : goal.returns-then-is_empty
returns-then-is_empty c = none_armed _ c.args.armed.now (search rules)

pub returns : goal.returns
returns c = every_from_all (λ (i : ℕ). eqb (triple_at c.args.s.now c.args.at i).state (triple_at c.args.s.now c.args.at (get_or c.args.armed.now 0 0)).state) _ _ c.all.result c.all.ensures.ran (YieldsList-from_slice c.args.armed.now cc) (λ x b q k. search (rules, tests))
