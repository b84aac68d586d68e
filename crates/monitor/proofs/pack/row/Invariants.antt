-- `pack::row` meets its contract. Assumes nothing.
use Rattle.monitor.proofs.Offers.Packed.{Packing}
use Rattle.monitor.proofs.pack.row.Given as goal

abbrev pub invariant-loop-i : goal.invariant-loop-i
invariant-loop-i l = Packing l.fn.state.calls l.fn.state.arms l.fn.state.opened l.row l.i
