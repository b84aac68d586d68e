-- `rows::calls_clear` meets its contract. Assumes nothing.
use Rattle.std.proofs.Common.{◌&&◌, rules, tests}
use Rattle.std.proofs.lemmas.Iterator.{YieldsList-from_slice}
use Rattle.step.specs.declared.Call.{Call}
use Rattle.step.specs.Calls.{most_values}
use Rattle.step.specs.Padding.{padded, is_zero_call}
use Rattle.step.proofs.OnLists.Alike.{every_from_all}
use Rattle.step.proofs.rows.calls_clear.Goals as goal

pub returns : goal.returns
returns c =
    every_from_all (λ (x : Call). padded most_values 0 x.kept && is_zero_call x) _ _ c.all.result c.all.ensures.ran (YieldsList-from_slice c.args.places.now cc) (λ x b q k. search (rules, tests))
