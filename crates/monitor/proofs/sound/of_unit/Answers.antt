-- `sound::of_unit` meets its contract. Assumes nothing.
use Rattle.std.proofs.Common.{ℕ, ◌&&◌, ltb, eqb, rules, tests}
use Rattle.std.proofs.lemmas.Iterator.{YieldsList-from_slice}
use Rattle.step.proofs.OnLists.Alike.{every_from_all}
use Rattle.monitor.specs.Walk.{triple_at}
use Rattle.monitor.proofs.sound.of_unit.Goals as goal

pub returns : goal.returns
returns c = every_from_all (λ (i : ℕ). ltb i c.args.n && eqb (triple_at c.args.s.now c.args.at i).unit c.args.unit) _ _ c.all.result c.all.ensures.ran (YieldsList-from_slice c.args.armed.now cc) (λ x b q k. search (rules, tests))
