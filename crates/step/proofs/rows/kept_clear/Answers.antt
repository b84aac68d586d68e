-- `rows::kept_clear` meets its contract. Assumes nothing.
use Rattle.std.proofs.Common.{rules, tests}
use Rattle.std.proofs.lemmas.Iterator.{YieldsList-from_slice}
use Rattle.step.specs.declared.Call.{Call}
use Rattle.step.specs.Calls.{most_values}
use Rattle.step.specs.Padding.{padded}
use Rattle.step.proofs.OnLists.Alike.{every_from_all}
use Rattle.step.proofs.rows.kept_clear.Goals as goal

pub returns : goal.returns
returns c =
    every_from_all (λ (x : Call). padded most_values c.args.from x.kept) _ _ c.all.result c.all.ensures.ran (YieldsList-from_slice c.args.calls.now cc) (λ x b q k. search (rules, tests))
