-- `table::numbers` meets its contract. Assumes nothing.
use mathlib.Core.Path.{◌∙◌}
use Prim.Native.Nat.{ℕ}
use native.Mathlib.Omega.{arith}
use lib.ListN.{length-replicate, length-set}
use Rattle.sheet.proofs.Readers.Indexing.{stored_none, stored_next, stored_all}
use Rattle.sheet.proofs.table.numbers.Goals as goal

pub loop-i-init : goal.loop-i-init
loop-i-init g c = (λ f k. stored_none f (g.R.Records.form c.args.records) g.row.W c.args.n c.args.s.now c.args.at, omega arith, length-replicate {A = ℕ} g.row.W 0)

pub loop-i-preserved : goal.loop-i-preserved
loop-i-preserved g c = (λ f k. stored_next f (g.R.Records.form c.args.records) g.row.W c.args.n c.loop-i.i c.args.s.now c.args.at c.loop-i.place c.loop-i.out (c.loop-i.invariant.0 f k) (omega arith) c.number.result (k c.loop-i.place c.number.result c.number.ensures) _ c.size-place.ensures.value, omega arith, length-set c.loop-i.out c.loop-i.i c.number.result ∙ c.loop-i.invariant.2)

pub returns : goal.returns
returns g c = λ f k. stored_all f (g.R.Records.form c.args.records) g.row.W c.args.n c.loop-i.i c.args.s.now c.args.at c.loop-i.place c.loop-i.out (c.loop-i.invariant.0 f k) c.loop-i.invariant.2 (rw c.min-i-end.ensures at c.loop-i-test.false)
