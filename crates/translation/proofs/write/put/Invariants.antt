-- `write::put` meets its contract. Assumes nothing.
use Rattle.translation.proofs.Writing.{Storing}
use Rattle.translation.proofs.write.put.Given as goal

abbrev pub invariant-loop-i : goal.invariant-loop-i
invariant-loop-i l = Storing l.initial.out l.at l.bytes l.out l.i
