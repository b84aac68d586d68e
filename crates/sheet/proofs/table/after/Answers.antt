-- `table::after` meets its contract. Assumes nothing.
use native.Mathlib.Omega.{arith}
use Rattle.sheet.proofs.Readers.Loops.{after_goes, after_ends}
use Rattle.sheet.proofs.table.after.Goals as goal

pub loop-preserved : goal.loop-preserved
loop-preserved g c = (after_goes (g.R.Records.form c.args.records) c.args.n c.loop.counter c.args.s.now c.args.at c.loop.place c.loop.invariant.0 c.loop-test.true _ c.size-place.ensures.value, omega arith)

pub returns : goal.returns
returns g c = record { place = after_ends (g.R.Records.form c.args.records) c.args.n c.loop.counter c.args.s.now c.args.at c.loop.place c.loop.invariant.0 c.loop-test.false; small = omega arith }
