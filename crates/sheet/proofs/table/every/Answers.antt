-- `table::every` meets its contract. Assumes nothing.
use mathlib.Core.Path.{sym, ◌∙◌}
use native.Mathlib.Omega.{arith}
use Rattle.sheet.proofs.Readers.Loops.{every_fails, every_goes, every_ends}
use Rattle.sheet.proofs.table.every.Goals as goal

pub returns-then-not-test : goal.returns-then-not-test
returns-then-not-test g c = λ p k. every_fails p (g.R.Records.form c.args.records) c.args.n c.loop.counter c.args.s.now c.args.at c.loop.place (c.loop.invariant.0 p k) c.loop-test.true (sym c.if-not-test.true ∙ k c.loop.place c.test.result c.test.ensures)

pub loop-preserved : goal.loop-preserved
loop-preserved g c = (λ p k. every_goes p (g.R.Records.form c.args.records) c.args.n c.loop.counter c.args.s.now c.args.at c.loop.place (c.loop.invariant.0 p k) c.loop-test.true (sym c.if-not-test.false ∙ k c.loop.place c.test.result c.test.ensures) _ c.size-place.ensures.value, omega arith)

pub returns : goal.returns
returns g c = λ p k. every_ends p (g.R.Records.form c.args.records) c.args.n c.loop.counter c.args.s.now c.args.at c.loop.place (c.loop.invariant.0 p k) c.loop-test.false
