-- `pack::row` meets its contract. Assumes nothing.
use Rattle.std.proofs.Common.{take}
use Rattle.network.proofs.Offers.Packing.{Packing}
use Rattle.network.proofs.pack.row.Given as goal

abbrev pub invariant-loop-i : goal.invariant-loop-i
invariant-loop-i l = Packing l.fn.state.calls (take l.fn.state.living l.fn.state.checkers) l.fn.state.opened l.row l.i l.checkers
