-- `sound::entries_carried` meets its contract. Assumes nothing.
use Rattle.std.proofs.Common.{rules, tests}
use Rattle.std.proofs.lemmas.Iterator.{YieldsList-from_slice}
use Rattle.step.proofs.OnLists.Alike.{every_from_all}
use Rattle.network.specs.Walk.{carried_in}
use Rattle.network.proofs.sound.entries_carried.Goals as goal

pub returns : goal.returns
returns c = every_from_all (carried_in c.args.calls.now) _ _ c.all.result c.all.ensures.ran (YieldsList-from_slice c.args.checkers.now cc) (λ x b q k. search (rules, tests))
