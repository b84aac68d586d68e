-- `rows::numbers_distinct` meets its contract. Assumes nothing.
use Rattle.step.specs.declared.Call.{Call}
use Rattle.step.proofs.OnLists.Alike.{distinct_end, distinct_next, distinct_fails}
use Rattle.step.proofs.rows.numbers_distinct.Goals as goal

pub returns-then-is_number_among : goal.returns-then-is_number_among
returns-then-is_number_among c = distinct_fails (λ (x : Call). x.number) _ _ c.loop-i.invariant _ c.loop-i-test.true _ c.is_number_among.ensures c.if-is_number_among.true

pub loop-i-preserved : goal.loop-i-preserved
loop-i-preserved c = distinct_next (λ (x : Call). x.number) _ _ c.loop-i.invariant _ c.loop-i-test.true _ c.is_number_among.ensures c.if-is_number_among.false

pub returns : goal.returns
returns c = distinct_end (λ (x : Call). x.number) _ _ c.loop-i.invariant c.loop-i-test.false
