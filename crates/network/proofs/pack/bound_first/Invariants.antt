-- `pack::bound_first` meets its contract. Assumes nothing.
use Rattle.std.proofs.Common.{drop}
use Rattle.step.proofs.OnLists.Filling.{Filling}
use Rattle.network.specs.Packed.{own_of}
use Rattle.network.proofs.pack.bound_first.Given as goal

abbrev pub invariant-loop-i : goal.invariant-loop-i
invariant-loop-i l = Filling 4 0 (own_of l.fn.number l.checkers) l.numbers l.i (drop l.i (own_of l.fn.number l.checkers))
