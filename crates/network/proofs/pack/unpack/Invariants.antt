-- `pack::unpack` meets its contract. Assumes nothing.
use Rattle.network.proofs.Offers.Packing.{Unpacking}
use Rattle.network.proofs.pack.unpack.Given as goal

abbrev pub invariant-loop-i : goal.invariant-loop-i
invariant-loop-i l = Unpacking l.row l.programs l.run.opened l.calls l.checkers l.living l.i
