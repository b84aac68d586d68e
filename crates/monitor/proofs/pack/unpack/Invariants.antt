-- `pack::unpack` meets its contract. Assumes nothing.
use Rattle.monitor.proofs.Offers.Packed.{Unpacking}
use Rattle.monitor.proofs.pack.unpack.Given as goal

abbrev pub invariant-loop-i : goal.invariant-loop-i
invariant-loop-i l = Unpacking l.row l.programs l.run.opened l.calls l.arms l.i
