-- `sound::on_calls` meets its contract. Assumes nothing.
use Rattle.std.proofs.Common.{rules, tests}
use Rattle.std.proofs.lemmas.Iterator.{YieldsList-from_slice}
use Rattle.step.proofs.OnLists.Alike.{every_from_all}
use Rattle.network.specs.Walk.{on_call_at}
use Rattle.network.proofs.sound.on_calls.Goals as goal

pub returns : goal.returns
returns c = every_from_all (on_call_at c.args.s.now c.args.t.templates c.args.t.header.last c.args.calls.now) _ _ c.all.result c.all.ensures.ran (YieldsList-from_slice c.args.checkers.now cc) (λ x b q k. search (rules, tests))
