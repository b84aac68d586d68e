-- `sound::four_a_call` meets its contract. Assumes nothing.
use Rattle.std.proofs.Common.{leb, length, rules, tests}
use Rattle.std.proofs.lemmas.Iterator.{YieldsList-from_slice}
use Rattle.step.specs.declared.Call.{Call}
use Rattle.step.specs.Lists.{keep}
use Rattle.step.proofs.OnLists.Alike.{every_from_all}
use Rattle.network.specs.Network.{bound_to}
use Rattle.network.proofs.sound.four_a_call.Goals as goal

pub returns : goal.returns
returns c = every_from_all (λ (x : Call). leb (length (keep (bound_to x.number) c.args.checkers.now)) 4) _ _ c.all.result c.all.ensures.ran (YieldsList-from_slice c.args.calls.now cc) (λ x b q k. search (rules, tests))
