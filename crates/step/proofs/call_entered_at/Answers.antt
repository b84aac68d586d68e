-- `call_entered_at` meets its contract. Assumes nothing.
use Rattle.std.proofs.Common.{◌&&◌, eqb, rules, tests}
use Rattle.std.proofs.lemmas.Iterator.{YieldsList-from_slice}
use Rattle.step.specs.declared.Call.{Call}
use Rattle.step.proofs.OnLists.Alike.{any_from_any}
use Rattle.step.proofs.call_entered_at.Goals as goal

pub returns : goal.returns
returns c =
    any_from_any (λ (x : Call). eqb x.number c.args.number && eqb x.entry c.args.entry) _ _ c.any.result c.any.ensures.ran (YieldsList-from_slice c.args.calls.now cc) (λ x b q k. search (rules, tests))
