-- `rows::is_number_among` meets its contract. Assumes nothing.
use Rattle.std.proofs.Common.{◌∙◌, eqb, rules, tests}
use Rattle.std.proofs.lemmas.Iterator.{YieldsList-from_slice}
use Rattle.step.specs.declared.Call.{Call}
use Rattle.step.proofs.OnLists.Alike.{any_from_any, any_number}
use Rattle.step.proofs.rows.is_number_among.Goals as goal

pub returns : goal.returns
returns c =
    any_from_any (λ (x : Call). eqb c.args.number x.number) _ _ c.any.result c.any.ensures.ran (YieldsList-from_slice c.args.calls.now cc) (λ x b q k. search (rules, tests))
    ∙ any_number (λ (x : Call). x.number) _ c.args.calls.now
