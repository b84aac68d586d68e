-- `sound::units_below` meets its contract. Assumes nothing.
use Rattle.std.proofs.Common.{ltb, rules, tests}
use Rattle.std.proofs.lemmas.Iterator.{YieldsList-from_slice}
use Rattle.step.specs.declared.Call.{Call}
use Rattle.step.proofs.OnLists.Alike.{every_from_all}
use Rattle.network.proofs.sound.units_below.Goals as goal

pub returns : goal.returns
returns c = every_from_all (λ (x : Call). ltb x.unit c.args.units) _ _ c.all.result c.all.ensures.ran (YieldsList-from_slice c.args.calls.now cc) (λ x b q k. search (rules, tests))
